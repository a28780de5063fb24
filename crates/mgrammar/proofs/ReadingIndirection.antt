-- SPDX-License-Identifier: Apache-2.0
-- What is read of argument indirection is spelled so, and what is spelled so is read.
use Rattle.mgrammar.proofs.GrammarWords.{◌≡◌, ℕ, true, false, eqb, List, [], ◌∷◌, ◌++◌, Option, Some, None, ◌⊎◌, inl, inr, refl, sym, ap, subst, ◌∙◌, arith}
use Rattle.mgrammar.proofs.GrammarWords.{nat_tests, append-nil, append_assoc, spell_actuals, is_name_start, IsName, ExprTree, expr, no_tails, tail, operand}
use Rattle.mgrammar.proofs.GrammarWords.{PrimaryTree, reference, EntryTree, at_label, at_label_in, at_routine, FormTree, set_argument, kill_argument}
use Rattle.mgrammar.proofs.GrammarWords.{new_argument, if_argument, for_argument, write_argument, do_argument, goto_argument, xecute_argument, lock_argument}
use Rattle.mgrammar.proofs.GrammarWords.{hang_argument, quit_argument, merge_argument, ArgTree, assign, formats, coded, shown, kill_one, kill_others, new_one}
use Rattle.mgrammar.proofs.GrammarWords.{new_others}
use Rattle.mgrammar.proofs.GrammarWords.{tested, loop, do_one, go_to, executed, locked, hang_for, returned, merge_one, indirect_args, anew, adding, giving_back}
use Rattle.mgrammar.proofs.GrammarWords.{lock_one}
use Rattle.mgrammar.proofs.GrammarWords.{lock_several, may_be_indirect, spell_expr, spell_reference, spell_primary, spell_routine, spell_entry, spell_condition}
use Rattle.mgrammar.proofs.GrammarWords.{spell_arg, bare_primary, bare_expr, bare_arg, settled, max_depth, WellExpr, WellBelow, WellEntry, WellPlain, WellArg}
use Rattle.mgrammar.proofs.GrammarWords.{Read, past, readers_at, settled_with, operand_by, operand_or}
use Rattle.mgrammar.proofs.ReadingBasics.{Takes, Again, Stops, Begins-stops, Begins-append, bind_some, some_is, past_takes, not_past}
use Rattle.mgrammar.proofs.ReadingReferences.{operand_ends, greedy_ends, named, bare_reference_is}
use Rattle.mgrammar.proofs.ReadingExprs.{below_takes, below_again}
use Rattle.mgrammar.proofs.ReadingArguments.{Follows}

-- ---- an `@` with its operand alone

bare_expr_is : (d : ℕ) (e : ExprTree) (p : PrimaryTree) → bare_expr e ≡ Some p → WellExpr d e → (spell_expr e ≡ 64 ∷ spell_primary p) × WellBelow d p
bare_expr_is d (expr (operand [] (reference v)) no_tails) p e w =
    let is = bare_reference_is d v p e w.0 in
    (append-nil _ ∙ is.0, is.1)
bare_expr_is d (expr (operand [] q) no_tails) p e w = absurd cc
bare_expr_is d (expr (operand (s ∷ ss) q) no_tails) p e w = absurd cc
bare_expr_is d (expr o (tail s rest)) p e w = absurd cc

-- an argument as it is written
bare_arg_is : (f : FormTree) (a : ArgTree) (p : PrimaryTree) → bare_arg a ≡ Some p → WellPlain f a → (spell_arg a ≡ 64 ∷ spell_primary p) × WellBelow max_depth p
bare_arg_is set_argument (assign d e) p h w = absurd cc
bare_arg_is kill_argument (kill_one v) p h w = bare_reference_is max_depth v p h w
bare_arg_is kill_argument (kill_others names) p h w = absurd cc
bare_arg_is new_argument (new_one name) p h w = absurd cc
bare_arg_is new_argument (new_others names) p h w = absurd cc
bare_arg_is if_argument (tested e) p h w = bare_expr_is max_depth e p h w
bare_arg_is for_argument (loop index parameters) p h w = absurd cc
bare_arg_is write_argument (formats run tab) p h w = absurd cc
bare_arg_is write_argument (coded e) p h w = absurd cc
bare_arg_is write_argument (shown e) p h w = bare_expr_is max_depth e p h w
bare_arg_is do_argument (do_one e xs c) p h w = absurd cc
bare_arg_is goto_argument (go_to e c) p h w = absurd cc
bare_arg_is xecute_argument (executed e None) p h w =
    let is = bare_expr_is max_depth e p h w.0 in
    (append-nil (spell_expr e) ∙ is.0, is.1)
bare_arg_is xecute_argument (executed e (Some c)) p h w = absurd cc
bare_arg_is lock_argument (locked anew (lock_one v) None) p h w =
    let is = bare_reference_is max_depth v p h w.0.0 in
    (append-nil (spell_reference v) ∙ is.0, is.1)
bare_arg_is lock_argument (locked anew (lock_one v) (Some t)) p h w = absurd cc
bare_arg_is lock_argument (locked anew (lock_several vs) t) p h w = absurd cc
bare_arg_is lock_argument (locked adding names t) p h w = absurd cc
bare_arg_is lock_argument (locked giving_back names t) p h w = absurd cc
bare_arg_is hang_argument (hang_for e) p h w = bare_expr_is max_depth e p h w
bare_arg_is quit_argument (returned e) p h w = absurd cc
bare_arg_is merge_argument (merge_one target source) p h w = absurd cc
bare_arg_is f a p h w = absurd w

-- ---- arguments that are written, and those that a text gives

no_plain : (f g : FormTree) (p : PrimaryTree) → WellPlain f (indirect_args g p) → ⊥
no_plain set_argument g p w = w
no_plain f g p w = w

pub plain_well : (f : FormTree) (a : ArgTree) → WellPlain f a → bare_arg a ≡ None → WellArg f a
plain_well f (indirect_args g p) w n = absurd (no_plain f g p w)
plain_well f a w n = (w, n)

abbrev IsGiven : FormTree → ArgTree → Type 0
IsGiven f a = (p : PrimaryTree) × (a ≡ indirect_args f p) × WellBelow max_depth p

pub which : (f : FormTree) (a : ArgTree) → WellArg f a → IsGiven f a ⊎ (WellPlain f a × (bare_arg a ≡ None))
which f (indirect_args g p) w = inl (p, ap (λ (g : FormTree). indirect_args g p) w.0, w.2)
which f a w = inr w

-- ---- one that begins as a variable or an expression

settled_is : (f : FormTree) (a : ArgTree) (o : Option PrimaryTree) → may_be_indirect f ≡ true → WellPlain f a → bare_arg a ≡ o → (spell_arg (settled f a o) ≡ spell_arg a) × WellArg f (settled f a o)
settled_is f a None m w h = (refl, plain_well f a w h)
settled_is f a (Some p) m w h = let is = bare_arg_is f a p h w in (sym is.0, (refl, m, is.1))

module _ (f : FormTree) (read : List ℕ → Read ArgTree) where
  pub settled_takes : may_be_indirect f ≡ true → Takes spell_arg (WellPlain f) read → Takes spell_arg (WellArg f) (settled_with read f)
  settled_takes m takes cs x e =
      let b = bind_some (read cs) (λ a. Some (settled f a.0 (bare_arg a.0), a.1)) x e in
      let t = takes cs b.0 b.1 in
      let is = settled_is f b.0.0 (bare_arg b.0.0) m t.1 refl in
      let made : ArgTree × List ℕ = (settled f b.0.0 (bare_arg b.0.0), b.0.1) in
      subst (λ (y : ArgTree × List ℕ). (cs ≡ spell_arg y.0 ++ y.1) × WellArg f y.0) {x = made} (some_is made x b.2)
      (t.0 ∙ ap (λ (y : List ℕ). y ++ b.0.1) (sym is.0), is.1)

  -- bare p is how an `@` with this operand alone is read
  pub settled_again : (bare : PrimaryTree → ArgTree) → ((p : PrimaryTree) → bare_arg (bare p) ≡ Some p) → ((p : PrimaryTree) → WellBelow max_depth p → WellPlain f (bare p))
      → Again spell_arg (WellPlain f) Follows read → Again spell_arg (WellArg f) Follows (settled_with read f)
  settled_again bare is well again a rest w s =
      elim (which f a w) [
        | inl g ↦ subst (λ (y : ArgTree). settled_with read f (spell_arg y ++ rest) ≡ Some (y, rest)) (sym g.1) (given g.0 g.2)
        | inr v ↦ rw (again a rest v.0 s, v.1) refl
      ]
    where
      given : (p : PrimaryTree) → WellBelow max_depth p → settled_with read f (64 ∷ (spell_primary p ++ rest)) ≡ Some (indirect_args f p, rest)
      given p w =
          let plain : WellPlain f (bare p) = well p w in
          let spelled = (bare_arg_is f (bare p) p (is p) plain).0 in
          ap (λ (y : List ℕ). settled_with read f (y ++ rest)) (sym spelled) ∙ rw (again (bare p) rest plain s, is p) refl

-- ---- one that begins as neither

-- an argument that is no `@` with its operand alone, and that no `@` begins
pub record IsApart (a : ArgTree) : Type 0 where
  pub bare : bare_arg a ≡ None
  pub stops : (rest : List ℕ) → Stops (λ c. eqb c 64) (spell_arg a ++ rest)

module _ (f : FormTree) (read : List ℕ → Read ArgTree) (apart : (a : ArgTree) → WellPlain f a → IsApart a) where
  operand_takes_by : may_be_indirect f ≡ true → Takes spell_arg (WellPlain f) read → (cs : List ℕ) (o : Option (List ℕ)) (x : ArgTree × List ℕ) → past 64 cs ≡ o → operand_by read f cs o ≡ Some x
      → (cs ≡ spell_arg x.0 ++ x.1) × WellArg f x.0
  operand_takes_by m takes cs None x h e = let t = takes cs x e in (t.0, plain_well f x.0 t.1 (apart x.0 t.1).bare)
  operand_takes_by m takes cs (Some behind) x h e =
      let b = bind_some ((readers_at max_depth).below behind) (λ p. Some (indirect_args f p.0, p.1)) x e in
      let t = below_takes max_depth behind b.0 b.1 in
      let made : ArgTree × List ℕ = (indirect_args f b.0.0, b.0.1) in
      subst (λ (y : ArgTree × List ℕ). (cs ≡ spell_arg y.0 ++ y.1) × WellArg f y.0) {x = made} (some_is made x b.2)
      (past_takes 64 cs behind h ∙ ap (λ (y : List ℕ). 64 ∷ y) t.0, (refl, m, t.1))

  pub operand_takes : may_be_indirect f ≡ true → Takes spell_arg (WellPlain f) read → Takes spell_arg (WellArg f) (operand_or read f)
  operand_takes m takes cs x e = operand_takes_by m takes cs (past 64 cs) x refl e

  pub operand_again : Again spell_arg (WellPlain f) Follows read → Again spell_arg (WellArg f) Follows (operand_or read f)
  operand_again again a rest w s =
      elim (which f a w) [
        | inl g ↦ subst (λ (y : ArgTree). operand_or read f (spell_arg y ++ rest) ≡ Some (y, rest)) (sym g.1) (given g.0 g.2)
        | inr v ↦ rw (not_past 64 (spell_arg a ++ rest) ((apart a v.0).stops rest), again a rest v.0 s) refl
      ]
    where
      given : (p : PrimaryTree) → WellBelow max_depth p → operand_or read f (64 ∷ (spell_primary p ++ rest)) ≡ Some (indirect_args f p, rest)
      given p w = rw (below_again max_depth p rest w (operand_ends rest s.0.0) (greedy_ends (bare_primary p) rest s.0.0)) refl

name_no_at : (c : ℕ) → is_name_start c ≡ true → eqb c 64 ≡ false
name_no_at c h = grind (arith, nat_tests)

name_stops : (name rest : List ℕ) → IsName name → Stops (λ c. eqb c 64) (name ++ rest)
name_stops name rest w = Begins-stops is_name_start (λ c. eqb c 64) (name ++ rest) name_no_at (Begins-append is_name_start name rest (named name w))

entry_stops : (e : EntryTree) (c rest : List ℕ) → WellEntry e → Stops (λ c. eqb c 64) ((spell_entry e ++ c) ++ rest)
entry_stops (at_label label) c rest w = Begins-stops is_name_start (λ c. eqb c 64) ((label ++ c) ++ rest) name_no_at (Begins-append is_name_start (label ++ c) rest (Begins-append is_name_start label c (named label w)))
entry_stops (at_label_in label routine) c rest w =
    Begins-stops is_name_start (λ c. eqb c 64) (((label ++ 94 ∷ spell_routine routine) ++ c) ++ rest) name_no_at
    (Begins-append is_name_start ((label ++ 94 ∷ spell_routine routine) ++ c) rest (Begins-append is_name_start (label ++ 94 ∷ spell_routine routine) c (Begins-append is_name_start label (94 ∷ spell_routine routine) (named label w.0))))
entry_stops (at_routine routine) c rest w = refl

pub hiding_apart : (a : ArgTree) → WellPlain new_argument a → IsApart a
hiding_apart (new_one name) w = record { bare = refl; stops = λ rest. name_stops name rest w }
hiding_apart (new_others names) w = record { bare = refl; stops = λ rest. refl }
hiding_apart a w = absurd w

pub entrance_apart : (a : ArgTree) → WellPlain do_argument a → IsApart a
entrance_apart (do_one e xs c) w = record {
  bare = refl;
  stops = λ rest.
      subst (λ (y : List ℕ). Stops (λ c. eqb c 64) (y ++ rest)) (sym (append_assoc (spell_entry e) (spell_actuals xs) (spell_condition c)))
      (entry_stops e (spell_actuals xs ++ spell_condition c) rest w.0.0);
}
entrance_apart a w = absurd w

pub leap_apart : (a : ArgTree) → WellPlain goto_argument a → IsApart a
leap_apart (go_to e c) w = record { bare = refl; stops = λ rest. entry_stops e (spell_condition c) rest w.0 }
leap_apart a w = absurd w
