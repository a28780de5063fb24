-- SPDX-License-Identifier: Apache-2.0
-- What is read of an argument of DO, GOTO or XECUTE is spelled so, and what is spelled so is read.
use Rattle.mgrammar.proofs.GrammarWords.{◌≡◌, ℕ, List, ◌∷◌, ◌++◌, Option, Some, None, refl, ap, subst, ◌∙◌, append_assoc, ExprTree, EntryTree, at_label}
use Rattle.mgrammar.proofs.GrammarWords.{at_label_in, at_routine, ArgTree, do_one, go_to, executed, do_argument, goto_argument, xecute_argument, spell_expr}
use Rattle.mgrammar.proofs.GrammarWords.{spell_condition, spell_routine, spell_entry, spell_actuals, spell_called, spell_arg, max_depth, WellExpr, WellOptional}
use Rattle.mgrammar.proofs.GrammarWords.{WellEntry, WellCalled, WellPlain, Read, ◌>>=◌, past, expr_at, postcondition_by, entry_at, doing_called, called_with}
use Rattle.mgrammar.proofs.GrammarWords.{readers_at, conditioned, do_argument_at, goto_argument_at, xecute_argument_at}
use Rattle.mgrammar.proofs.ReadingBasics.{IsRead, Takes, Again, Stops, Begins, Begins-append, goes_on, bind_some, some_is, past_takes, not_past}
use Rattle.mgrammar.proofs.ReadingLists.{joined}
use Rattle.mgrammar.proofs.ReadingReferences.{Ends, operand_ends}
use Rattle.mgrammar.proofs.ReadingActuals.{EntryEnds, entry_ends, entry_takes, entry_again, called_takes, called_again}
use Rattle.mgrammar.proofs.ReadingExprs.{begins_operand, expr_begins, handed_takes, handed_again}
use Rattle.mgrammar.proofs.ReadingArguments.{whole_takes, whole_again, is_colon, Follows, names_begin}

-- ---- postconditionals

pub condition_read : (cs : List ℕ) (o : Option (List ℕ)) (x : Option ExprTree × List ℕ) → past 58 cs ≡ o → postcondition_by cs o ≡ Some x → (cs ≡ spell_condition x.0 ++ x.1) × WellOptional max_depth x.0
condition_read cs None x h e =
    subst (λ (y : Option ExprTree × List ℕ). (cs ≡ spell_condition y.0 ++ y.1) × WellOptional max_depth y.0) {x = (None, cs)} (some_is (None, cs) x e) (refl, tt)
condition_read cs (Some rest) x h e =
    let b = bind_some (expr_at max_depth rest) (λ y. Some (Some y.0, y.1)) x e in
    let value = whole_takes rest b.0 b.1 in
    subst (λ (y : Option ExprTree × List ℕ). (cs ≡ spell_condition y.0 ++ y.1) × WellOptional max_depth y.0) {x = (Some b.0.0, b.0.1)} (some_is (Some b.0.0, b.0.1) x b.2)
    (past_takes 58 cs rest h ∙ ap (λ (y : List ℕ). 58 ∷ y) value.0, value.1)

pub condition_spelled : (c : Option ExprTree) (rest : List ℕ) → WellOptional max_depth c → Ends rest → Stops is_colon rest → postcondition_by (spell_condition c ++ rest) (past 58 (spell_condition c ++ rest)) ≡ Some (c, rest)
condition_spelled None rest w s t = rw (not_past 58 rest t) refl
condition_spelled (Some e) rest w s t = rw (whole_again e rest w s) refl

-- ---- an item with a postconditional of its own

module _ {A : Type 0} (spell : A → List ℕ) (P : A → Type 0) (read : List ℕ → Read A) (made : A → Option ExprTree → ArgTree) where
  pub conditioned_takes : (Is : ArgTree × List ℕ → Type 0) (cs : List ℕ) (x : ArgTree × List ℕ) → Takes spell P read → (read cs >>= conditioned made) ≡ Some x
      → ((a : A) (c : Option ExprTree) (rest : List ℕ) → cs ≡ (spell a ++ spell_condition c) ++ rest → P a → WellOptional max_depth c → Is (made a c, rest)) → Is x
  conditioned_takes Is cs x takes e is =
      let b = bind_some (read cs) (conditioned made) x e in
      let k = bind_some (postcondition_by b.0.1 (past 58 b.0.1)) (λ c. Some (made b.0.0 c.0, c.1)) x b.2 in
      let item = takes cs b.0 b.1 in
      let condition = condition_read b.0.1 (past 58 b.0.1) k.0 refl k.1 in
      subst Is {x = (made b.0.0 k.0.0, k.0.1)} (some_is (made b.0.0 k.0.0, k.0.1) x k.2)
      (is b.0.0 k.0.0 k.0.1 (joined cs (spell b.0.0) b.0.1 (spell_condition k.0.0) k.0.1 (spell_condition k.0.0) item.0 condition.0 refl) item.1 condition.1)

  pub conditioned_again : (a : A) (c : Option ExprTree) (rest : List ℕ) → WellOptional max_depth c → Follows rest → read (spell a ++ (spell_condition c ++ rest)) ≡ Some (a, spell_condition c ++ rest)
      → (read ((spell a ++ spell_condition c) ++ rest) >>= conditioned made) ≡ Some (made a c, rest)
  conditioned_again a c rest w s h = rw (append_assoc (spell a) (spell_condition c) rest, h, condition_spelled c rest w s.0 s.1) refl

-- ---- what a postconditional goes on with

called_stops : (c : Option ExprTree) (rest : List ℕ) → Follows rest → Stops goes_on (spell_condition c ++ rest)
called_stops None rest s = operand_ends rest s.0.0
called_stops (Some e) rest s = refl

entry_stops : (c : Option ExprTree) (rest : List ℕ) → Follows rest → EntryEnds (spell_condition c ++ rest)
entry_stops c rest s = entry_ends (spell_condition c ++ rest) (called_stops c rest s)

expr_stops : (c : Option ExprTree) (rest : List ℕ) → Follows rest → Ends (spell_condition c ++ rest)
expr_stops None rest s = s.0
expr_stops (Some e) rest s = (refl, refl)

-- ---- the arguments

pub do_argument_takes : Takes spell_arg (WellPlain do_argument) do_argument_at
unfolding do_argument_at
do_argument_takes cs x e =
    conditioned_takes spell_called (WellCalled max_depth) (called_with (readers_at max_depth)) doing_called (IsRead spell_arg (WellPlain do_argument) cs) cs x
    (called_takes max_depth (readers_at max_depth) (handed_takes max_depth)) e (λ a c rest p w v. (p, (w, v)))

pub do_argument_again : Again spell_arg (WellPlain do_argument) Follows do_argument_at
unfolding do_argument_at
do_argument_again (do_one a xs c) rest w s =
    conditioned_again spell_called (WellCalled max_depth) (called_with (readers_at max_depth)) doing_called (a, xs) c rest w.1 s
    (called_again max_depth (readers_at max_depth) (handed_again max_depth) (a, xs) (spell_condition c ++ rest) w.0 (called_stops c rest s))
do_argument_again a rest w s = absurd w

pub goto_argument_takes : Takes spell_arg (WellPlain goto_argument) goto_argument_at
unfolding goto_argument_at
goto_argument_takes cs x e =
    conditioned_takes spell_entry WellEntry entry_at go_to (IsRead spell_arg (WellPlain goto_argument) cs) cs x entry_takes e (λ a c rest p w v. (p, (w, v)))

pub goto_argument_again : Again spell_arg (WellPlain goto_argument) Follows goto_argument_at
unfolding goto_argument_at
goto_argument_again (go_to a c) rest w s = conditioned_again spell_entry WellEntry entry_at go_to a c rest w.1 s (entry_again a (spell_condition c ++ rest) w.0 (entry_stops c rest s))
goto_argument_again a rest w s = absurd w

pub xecute_argument_takes : Takes spell_arg (WellPlain xecute_argument) xecute_argument_at
unfolding xecute_argument_at
xecute_argument_takes cs x e =
    conditioned_takes spell_expr (WellExpr max_depth) (expr_at max_depth) executed (IsRead spell_arg (WellPlain xecute_argument) cs) cs x whole_takes e (λ a c rest p w v. (p, (w, v)))

pub xecute_argument_again : Again spell_arg (WellPlain xecute_argument) Follows xecute_argument_at
unfolding xecute_argument_at
xecute_argument_again (executed e c) rest w s =
    conditioned_again spell_expr (WellExpr max_depth) (expr_at max_depth) executed e c rest w.1 s (whole_again e (spell_condition c ++ rest) w.0 (expr_stops c rest s))
xecute_argument_again a rest w s = absurd w

-- ---- where an argument begins

entry_begins : (a : EntryTree) → WellEntry a → Begins begins_operand (spell_entry a)
entry_begins (at_label label) w = names_begin label w
entry_begins (at_label_in label routine) w = Begins-append begins_operand label (94 ∷ spell_routine routine) (names_begin label w.0)
entry_begins (at_routine routine) w = refl

pub do_argument_begins : (a : ArgTree) → WellPlain do_argument a → Begins begins_operand (spell_arg a)
do_argument_begins (do_one a xs c) w =
    Begins-append begins_operand (spell_called (a, xs)) (spell_condition c) (Begins-append begins_operand (spell_entry a) (spell_actuals xs) (entry_begins a w.0.0))
do_argument_begins a w = absurd w

pub goto_argument_begins : (a : ArgTree) → WellPlain goto_argument a → Begins begins_operand (spell_arg a)
goto_argument_begins (go_to a c) w = Begins-append begins_operand (spell_entry a) (spell_condition c) (entry_begins a w.0)
goto_argument_begins a w = absurd w

pub xecute_argument_begins : (a : ArgTree) → WellPlain xecute_argument a → Begins begins_operand (spell_arg a)
xecute_argument_begins (executed e c) w = Begins-append begins_operand (spell_expr e) (spell_condition c) (expr_begins max_depth e w.0)
xecute_argument_begins a w = absurd w
