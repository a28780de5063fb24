-- SPDX-License-Identifier: Apache-2.0
-- How deep indirections may stand, on examples, as proved equations: which are levels at once, and in which order they are refused.
use Rattle.mmeaning.proofs.MeaningWords.{◌≡◌, ℕ, zero, suc, ◌+◌, ◌≤◌, Bool, true, false, List, [], ◌∷◌, Option, Some, None, refl, arith, rules, codes, nat_lt}
use Rattle.mmeaning.proofs.MeaningWords.{M9, Zdepth, Zsyntax, Done, nat_tests, Text, Node, Locals, level_begun, State, Gives, Fails, value_of, assigned_to}
use Rattle.mmeaning.proofs.MeaningWords.{divide, number, PrimaryTree, text, bracket, reference, ReferenceTree, indirect, exprs, no_exprs, variable, one}
use Rattle.mmeaning.proofs.MeaningWords.{write_argument, at_label, do_argument, do_one, no_actuals, indirect_args, do_word, CommandTree, many, list_at, name_at}
use Rattle.mmeaning.proofs.MeaningWords.{entry_at, actuals_with, called_with, do_argument_at, ref_at, ref_in, args_of, args_in, RoutineLineTree, spaced_out}
use Rattle.mmeaning.proofs.MeaningWords.{label_at, formals_at, formals_in, routine_line_in, reads_in, of_global, of_naked, of_local, Inside, inside, evaluated}
use Rattle.mmeaning.proofs.MeaningWords.{finds, is_indirection_free, Context, context, given, setting, Position, commands, target, computes, Cursor}
use Rattle.mgrammar.specs.ReadingExpressions.{subscripts_with, attached_with, indirect_with, reference_with, primary_with, readers_at}
use Rattle.mmeaning.proofs.LineTrees.{only, with_operator, command, line}
use Rattle.mmeaning.proofs.ExampleAccount.{of_profile}

-- with this many levels open, of which this many are indirections
abbrev within : ℕ → ℕ → Inside
within levels indirections = inside (codes "ALICE") 9 (record { levels = levels; indirections = indirections; wants_value = false })

abbrev at : ℕ → ℕ → Context
at levels indirections = context (codes "ALICE") 9 (record { depth = record { levels = levels; indirections = indirections; wants_value = false }; level = record { copy = []; next = None; dots = 0 } })

abbrev in_text : List ℕ → PrimaryTree
in_text t = text t

-- `@` and a text
abbrev at_text : Text → ReferenceTree
at_text t = indirect (text t) no_exprs

abbrev error : PrimaryTree
error = bracket (with_operator (number (codes "1")) divide (number (codes "0")))

module _ (naked : Option Node) (test : Bool) (cursor : Cursor) (out : Text) where
  abbrev state : Locals → ℕ → State
  state locals steps = record { locals = locals; naked = naked; test = test; cursor = cursor; out = out; steps = steps; given = of_profile }

  -- ---- the operand first, then the level, then the text

  record InOrder : Type 0 where
    operand_before_level : (locals : Locals) (steps : ℕ) → evaluated (within 256 0) (indirect error no_exprs) (state locals (suc (suc (suc steps)))) ≡ Done (Fails M9 (state locals steps))
    level_before_text : (locals : Locals) (steps : ℕ) → evaluated (within 256 0) (at_text (codes "B C")) (state locals (suc steps)) ≡ Done (Fails Zdepth (state locals steps))
    text_read : (locals : Locals) (steps : ℕ) → evaluated (within 255 0) (at_text (codes "B C")) (state locals (suc steps)) ≡ Done (Fails Zsyntax (state locals steps))
    -- the same of arguments
    argument_level_before_text : (locals : Locals) (steps : ℕ) → given (at 256 0) write_argument (text (codes "1 1")) (state locals (suc steps)) ≡ Done (Fails Zdepth (state locals steps))
    argument_text_read : (locals : Locals) (steps : ℕ) → given (at 255 0) write_argument (text (codes "1 1")) (state locals (suc steps)) ≡ Done (Fails Zsyntax (state locals steps))

  in_order : InOrder
  unfolding reads_in computes
  in_order = search rules

  -- ---- subscripts of a text, and those after it

  record Named : Type 0 where
    global_named : (locals : Locals) (steps : ℕ) → evaluated (within 0 0) (indirect (text (codes "^A(\"x\")")) (exprs (only (text (codes "y"))) no_exprs)) (state locals (suc (suc (suc steps))))
        ≡ Done (Gives (of_global (record { account = codes "ALICE"; name = codes "A"; subscripts = codes "x" ∷ codes "y" ∷ [] })) (state locals steps))
    naked_named : (locals : Locals) (steps : ℕ) → evaluated (within 0 0) (indirect (text (codes "^(\"x\")")) (exprs (only (text (codes "y"))) no_exprs)) (state locals (suc (suc (suc steps))))
        ≡ Done (Gives (of_naked (codes "x" ∷ codes "y" ∷ [])) (state locals steps))
    -- 256 levels, of which 32 are indirections
    last_level : (locals : Locals) (steps : ℕ) → evaluated (within 255 31) (at_text (codes "B")) (state locals (suc steps)) ≡ Done (Gives (of_local (codes "B") []) (state locals steps))
    one_indirection_more : (locals : Locals) (steps : ℕ) → evaluated (within 32 32) (at_text (codes "B")) (state locals (suc steps)) ≡ Done (Fails Zdepth (state locals steps))
    one_argument_more : (locals : Locals) (steps : ℕ) → given (at 32 32) write_argument (text (codes "1")) (state locals (suc steps)) ≡ Done (Fails Zdepth (state locals steps))

  named : Named
  unfolding reads_in finds
  named = search rules

  -- ---- which are levels at once, if one level is free

  -- an operand is evaluated before its indirection is a level
  operand_is_outside : (locals : Locals) (steps : ℕ) → value_of locals (codes "B") [] ≡ Some (codes "C")
      → evaluated (within 255 0) (indirect (reference (at_text (codes "B"))) no_exprs) (state locals (suc (suc steps))) ≡ Done (Gives (of_local (codes "C") []) (state locals steps))
  unfolding finds ref_in ref_at name_at subscripts_with attached_with indirect_with reference_with readers_at
  operand_is_outside locals steps h = rw h refl

  -- within the text of another both are
  text_is_inside : (locals : Locals) (steps : ℕ) → value_of locals (codes "B") [] ≡ Some (codes "C")
      → evaluated (within 255 0) (at_text (codes "@B")) (state locals (suc (suc steps))) ≡ Done (Fails Zdepth (state locals steps))
  unfolding finds ref_in ref_at name_at subscripts_with attached_with indirect_with reference_with readers_at primary_with
  text_is_inside locals steps h = rw h refl

  -- and so they are in the subscripts after it
  subscripts_are_inside : (locals : Locals) (steps : ℕ) → evaluated (within 255 0) (indirect (text (codes "B")) (exprs (only (reference (at_text (codes "C")))) no_exprs)) (state locals (suc (suc (suc steps)))) ≡ Done (Fails Zdepth (state locals steps))
  unfolding finds ref_in ref_at name_at subscripts_with attached_with indirect_with reference_with readers_at
  subscripts_are_inside locals steps = refl

  -- a target's is over when the right side is evaluated
  target_before_value : (locals : Locals) (steps : ℕ) → value_of locals (codes "B") [] ≡ Some (codes "7")
      → setting (within 255 0) (one (variable (at_text (codes "C")))) (only (reference (at_text (codes "B")))) (state locals (suc (suc (suc steps))))
      ≡ Done (Gives tt (state (assigned_to locals (codes "C") [] (codes "7")) steps))
  unfolding finds ref_in ref_at name_at subscripts_with attached_with indirect_with reference_with readers_at
  target_before_value locals steps h = rw h refl

-- ---- an argument's indirection is a level while the argument is done: 32 are open when a line that does itself is refused

abbrev itself_line : Text
itself_line = codes "T D @\"T\""

abbrev itself_commands : List CommandTree
itself_commands = command do_word 68 (indirect_args do_argument (text (codes "T")) ∷ []) ∷ []

abbrev itself : RoutineLineTree
itself = record { label = Some (codes "T"); formals = None; body = spaced_out [] (line ((command do_word 68 (indirect_args do_argument (text (codes "T")) ∷ []), 0) ∷ [])) }

itself_read : routine_line_in 0 itself_line ≡ Some itself
unfolding reads_in
itself_read = refl

entry_read : args_in do_argument 0 (codes "T") ≡ Some (do_one (at_label (codes "T")) no_actuals None ∷ [])
unfolding args_in args_of many list_at name_at entry_at actuals_with called_with do_argument_at
entry_read = refl

abbrev in_line : ℕ → ℕ → Position
in_line levels indirections = record {
  depth = record { levels = levels; indirections = indirections; wants_value = false };
  level = record { copy = itself_line ∷ []; next = Some 1; dots = 0 };
}

-- three steps for each further level of DO, and two when the indirection is refused
abbrev steps_for : ℕ → ℕ → ℕ
steps_for zero steps = suc (suc steps)
steps_for (suc k) steps = suc (suc (suc (steps_for k steps)))

abbrev begun_more : ℕ → Locals → Locals
begun_more zero locals = locals
begun_more (suc k) locals = begun_more k (level_begun locals)

module _ (naked : Option Node) (test : Bool) (cursor : Cursor) (out : Text) (steps : ℕ) where
  abbrev in_state : Locals → ℕ → State
  in_state locals n = record { locals = locals; naked = naked; test = test; cursor = cursor; out = out; steps = n; given = of_profile }

  entry_found : (locals : Locals) (n : ℕ) → target (itself_line ∷ []) 0 (at_label (codes "T")) (in_state locals n) ≡ Done (Gives (record { copy = itself_line ∷ []; line = 0 }) (in_state locals n))
  unfolding name_at label_at formals_at
  entry_found locals n = refl

  no_formals : formals_in 0 (Some itself_line) ≡ None
  unfolding name_at label_at formals_at
  no_formals = refl

  -- this many more indirections may be opened
  abbrev IsRefused : ℕ → ℕ → ℕ → ℕ → Locals → Type 0
  IsRefused k levels indirections n locals =
      commands (context (codes "ALICE") n (in_line levels indirections)) itself_commands (in_state locals (steps_for k steps)) ≡ Done (Fails Zdepth (in_state (begun_more k locals) steps))

  at_limit : (levels indirections n : ℕ) (locals : Locals) → is_indirection_free (record { levels = levels; indirections = indirections; wants_value = false }) ≡ false → IsRefused zero levels indirections n locals
  at_limit levels indirections n locals full = rw full refl

  below_limit : (k levels indirections n : ℕ) (locals : Locals) → is_indirection_free (record { levels = levels; indirections = indirections; wants_value = false }) ≡ true → nat_lt (levels + 1) 256 ≡ true
      → IsRefused k (levels + 1 + 1) (indirections + 1) n (level_begun locals) → IsRefused (suc k) levels indirections (suc (suc n)) locals
  below_limit k levels indirections n locals free level inner = rw (free, entry_read, level, entry_found, no_formals, itself_read, inner) refl

  refused : (k levels indirections n : ℕ) (locals : Locals) → k + indirections ≡ 32 → k + k + levels ≤ 255 → k + k ≤ n → IsRefused k levels indirections n locals
  refused zero levels indirections n locals e few le = at_limit levels indirections n locals (grind (arith, nat_tests, e))
  refused (suc k) levels indirections zero locals e few le = absurd (omega (arith, le))
  refused (suc k) levels indirections (suc zero) locals e few le = absurd (omega (arith, le))
  refused (suc k) levels indirections (suc (suc n)) locals e few le =
      below_limit k levels indirections n locals (grind (arith, nat_tests, e, few)) (grind (arith, nat_tests, few)) (refused k (levels + 1 + 1) (indirections + 1) n (level_begun locals) (omega (arith, e)) (omega (arith, few)) (omega (arith, le)))

  -- the line stands in the level of a DO: 32 further levels of DO are open, and as many indirections
  line_of_itself : (locals : Locals) → commands (context (codes "ALICE") 64 (in_line 1 0)) itself_commands (in_state locals (steps_for 32 steps)) ≡ Done (Fails Zdepth (in_state (begun_more 32 locals) steps))
  line_of_itself locals = refused 32 1 0 64 locals refl (omega arith) (omega arith)
