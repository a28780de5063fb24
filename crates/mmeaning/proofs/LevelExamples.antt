-- SPDX-License-Identifier: Apache-2.0
-- Levels on examples, as proved equations: how many may be open, and in which order DO, GOTO and XECUTE are refused.
use Rattle.mmeaning.proofs.MeaningWords.{◌≡◌, ℕ, zero, suc, ◌+◌, ◌≤◌, Bool, true, false, List, [], ◌∷◌, Option, Some, None, refl, ap, subst, ◌∙◌, arith, rules}
use Rattle.mmeaning.proofs.MeaningWords.{codes, nat_lt, M9, M13, Zdepth, Zlevel, Zsyntax, Plan, Done, then_plan, line_in, text_run, nat_tests, Scope, Text}
use Rattle.mmeaning.proofs.MeaningWords.{Node, Locals, State, Outcome, Gives, Fails, on_gives, level_begun, value_of, divide, number, text, reference, at_label}
use Rattle.mmeaning.proofs.MeaningWords.{executed, execute_word, LineTree, reads_in, Completion, Position, top_level, after_level, closed, stays, run_within}
use Rattle.mmeaning.proofs.MeaningWords.{Context, Go_on, Goes, context, commands, doing, no_actuals, doing_block, executing, going, commands_of, computes}
use Rattle.mmeaning.proofs.MeaningWords.{Cursor}
use Rattle.mmeaning.proofs.LineTrees.{only, with_operator, named, command, line}
use Rattle.mmeaning.proofs.ExampleAccount.{of_profile}

-- a level of this many dots, of a routine of three lines, with this many levels open
abbrev lines : List Text
lines = codes "T W 1" ∷ codes "U . W 2" ∷ codes "V )" ∷ []

abbrev within : ℕ → ℕ → Context
within levels dots = context (codes "ALICE") 9 (record { depth = record { levels = levels; indirections = 0; wants_value = false }; level = record { copy = lines; next = None; dots = dots } })

-- ---- the 257th level is refused

record Refused : Type 0 where
  -- before the line of a DO is sought
  level_before_line : (s : State) → doing (within 256 0) (at_label (codes "NO")) no_actuals s ≡ Done (Fails Zdepth s)
  line_sought : (s : State) → doing (within 255 0) (at_label (codes "NO")) no_actuals s ≡ Done (Fails M13 s)
  -- even for an argumentless DO that no line follows
  level_of_block : (s : State) → doing_block (within 256 0) s ≡ Done (Fails Zdepth s)
  block_ends : (naked : Option Node) (test : Bool) (cursor : Cursor) (out : Text) (steps : ℕ) (top : Scope) (below : Locals)
      → doing_block (within 255 0) (record { locals = top ∷ below; naked = naked; test = test; cursor = cursor; out = out; steps = steps; given = of_profile })
      ≡ Done (Gives Go_on (record { locals = top ∷ below; naked = naked; test = test; cursor = cursor; out = out; steps = steps; given = of_profile }))
  -- after the value of a text, and before the text is read
  level_before_text : (locals : Locals) (naked : Option Node) (test : Bool) (cursor : Cursor) (out : Text) (steps : ℕ)
      → executing (within 256 0) (only (text (codes "1 1"))) (record { locals = locals; naked = naked; test = test; cursor = cursor; out = out; steps = suc steps; given = of_profile })
      ≡ Done (Fails Zdepth (record { locals = locals; naked = naked; test = test; cursor = cursor; out = out; steps = steps; given = of_profile }))
  text_read : (locals : Locals) (naked : Option Node) (test : Bool) (cursor : Cursor) (out : Text) (steps : ℕ)
      → executing (within 255 0) (only (text (codes "1 1"))) (record { locals = locals; naked = naked; test = test; cursor = cursor; out = out; steps = suc steps; given = of_profile })
      ≡ Done (Fails Zsyntax (record { locals = locals; naked = naked; test = test; cursor = cursor; out = out; steps = steps; given = of_profile }))
  value_before_level : (locals : Locals) (naked : Option Node) (test : Bool) (cursor : Cursor) (out : Text) (steps : ℕ)
      → executing (within 256 0) (with_operator (number (codes "1")) divide (number (codes "0"))) (record { locals = locals; naked = naked; test = test; cursor = cursor; out = out; steps = suc (suc steps); given = of_profile })
      ≡ Done (Fails M9 (record { locals = locals; naked = naked; test = test; cursor = cursor; out = out; steps = steps; given = of_profile }))
  -- lines with dots
  -- GOTO keeps to the dots of its level, and opens none
  goto_dots : (s : State) → going (within 256 1) (at_label (codes "U")) s ≡ Done (Gives (Goes (record { copy = lines; line = 1 })) s)
  goto_other_dots : (s : State) → going (within 256 1) (at_label (codes "T")) s ≡ Done (Fails Zlevel s)
  -- the level of a DO with an argument has none
  do_dots : (s : State) → doing (within 0 1) (at_label (codes "U")) no_actuals s ≡ Done (Fails Zlevel s)

refused_levels : Refused
unfolding reads_in level_begun computes
refused_levels = search rules

-- ---- a text that runs itself: 256 levels are open when it is refused

-- X A
abbrev itself : LineTree
itself = line ((command execute_word 88 (executed (only (reference (named (codes "A")))) None ∷ []), 0) ∷ [])

itself_read : line_in 0 (codes "X A") ≡ Some itself
unfolding reads_in
itself_read = refl

abbrev open_levels : ℕ → Position
open_levels levels = record { depth = record { levels = levels; indirections = 0; wants_value = false }; level = record { copy = []; next = None; dots = 0 } }

-- two steps for each further level, and for the one that is refused
abbrev steps_for : ℕ → ℕ → ℕ
steps_for zero steps = suc (suc steps)
steps_for (suc k) steps = suc (suc (steps_for k steps))

abbrev begun_more : ℕ → Locals → Locals
begun_more zero locals = locals
begun_more (suc k) locals = begun_more k (level_begun locals)

-- a level that is begun hides no variable
begun_value : (locals : Locals) → value_of (level_begun locals) (codes "A") [] ≡ value_of locals (codes "A") []
unfolding value_of level_begun
begun_value locals = refl

module _ (naked : Option Node) (test : Bool) (cursor : Cursor) (out : Text) (steps : ℕ) where
  abbrev state : Locals → ℕ → State
  state locals n = record { locals = locals; naked = naked; test = test; cursor = cursor; out = out; steps = n; given = of_profile }

  -- this many more levels may be opened
  abbrev IsRefused : ℕ → ℕ → ℕ → Locals → Type 0
  IsRefused k levels n locals =
      commands (context (codes "ALICE") n (open_levels levels)) (commands_of itself) (state locals (steps_for k steps)) ≡ Done (Fails Zdepth (state (begun_more k locals) steps))

  at_limit : (levels n : ℕ) (locals : Locals) → nat_lt levels 256 ≡ false → value_of locals (codes "A") [] ≡ Some (codes "X A") → IsRefused zero levels n locals
  at_limit levels n locals full h = rw (h, full) refl

  below_limit : (k levels n : ℕ) (locals : Locals) → nat_lt levels 256 ≡ true → value_of locals (codes "A") [] ≡ Some (codes "X A")
      → IsRefused k (levels + 1) n (level_begun locals) → IsRefused (suc k) levels (suc n) locals
  below_limit k levels n locals free h inner = rw (h, free, itself_read, inner) refl

  refused : (k levels n : ℕ) (locals : Locals) → k + levels ≡ 256 → k ≤ n → value_of locals (codes "A") [] ≡ Some (codes "X A") → IsRefused k levels n locals
  refused zero levels n locals e le h = at_limit levels n locals (grind (arith, nat_tests, e)) h
  refused (suc k) levels zero locals e le h = absurd (omega (arith, le))
  refused (suc k) levels (suc n) locals e le h =
      below_limit k levels n locals (grind (arith, nat_tests, e)) h (refused k (levels + 1) n (level_begun locals) (omega (arith, e)) (omega (arith, le)) (begun_value locals ∙ h))

run_refused : (n : ℕ) (s after : State) → commands (context (codes "ALICE") n top_level) (commands_of itself) s ≡ Done (Fails Zdepth after) → run_within (codes "ALICE") n (commands_of itself) s ≡ Done (Fails Zdepth after)
run_refused n s after h = ap (λ (p : Plan (Outcome Completion)). then_plan (then_plan p (on_gives (after_level (context (codes "ALICE") n top_level)))) (on_gives (closed stays))) h

-- the state that it leaves: 1,486 of 2,000 steps, and 256 levels more
text_of_itself : (naked : Option Node) (test : Bool) (cursor : Cursor) (out : Text) (locals : Locals) → value_of locals (codes "A") [] ≡ Some (codes "X A")
    → text_run (codes "ALICE") (line_in 0 (codes "X A")) (record { locals = locals; naked = naked; test = test; cursor = cursor; out = out; steps = 2000; given = of_profile })
    ≡ Done (Fails Zdepth (record { locals = begun_more 256 locals; naked = naked; test = test; cursor = cursor; out = out; steps = 1486; given = of_profile }))
text_of_itself naked test cursor out locals h =
    ap (λ l. text_run (codes "ALICE") l (record { locals = locals; naked = naked; test = test; cursor = cursor; out = out; steps = 2000; given = of_profile })) itself_read
    ∙ run_refused 2000 (state naked test cursor out 1486 locals 2000) (state naked test cursor out 1486 (begun_more 256 locals) 1486) (enough 2000 refl)
  where
    enough : (n : ℕ) → steps_for 256 1486 ≡ n → commands (context (codes "ALICE") 2000 top_level) (commands_of itself) (state naked test cursor out 1486 locals n) ≡ Done (Fails Zdepth (state naked test cursor out 1486 (begun_more 256 locals) 1486))
    enough n e = subst (λ n. commands (context (codes "ALICE") 2000 top_level) (commands_of itself) (state naked test cursor out 1486 locals n) ≡ Done (Fails Zdepth (state naked test cursor out 1486 (begun_more 256 locals) 1486))) e (refused naked test cursor out 1486 256 0 2000 locals refl (omega arith) h)
