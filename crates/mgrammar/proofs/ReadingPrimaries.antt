-- SPDX-License-Identifier: Apache-2.0
-- What is read of a primary is spelled so, and what is spelled so is read.
use Rattle.mgrammar.proofs.GrammarWords.{◌≡◌, ℕ, ◌<◌, Bool, true, false, cond, eqb, List, [], ◌∷◌, ◌++◌, length, Option, Some, None, inl, inr, refl, sym, ap}
use Rattle.mgrammar.proofs.GrammarWords.{subst, ◌∙◌, append_assoc, arith, ◌||◌, eqb-true, nat_tests, is_letter, is_character, AllAre, ExprTree, PrimaryTree}
use Rattle.mgrammar.proofs.GrammarWords.{number, text, special, reference, bracket, call, select, refer, extrinsic, EntryTree, ActualsTree, spell_actual}
use Rattle.mgrammar.proofs.GrammarWords.{spell_called, called_with, dollars_by, ReferenceTree, ExprsTree, exprs_of, ChoicesTree, choices_of, quoted, spell_expr}
use Rattle.mgrammar.proofs.GrammarWords.{spell_primary, spell_reference, spell_exprs, spell_more_exprs, spell_more, spell_choices, spell_list, SpecialTree}
use Rattle.mgrammar.proofs.GrammarWords.{special_of, ValueFunctionTree, VariableFunctionTree, FunctionTree, of_values, of_variable, of_choices, function_of}
use Rattle.mgrammar.proofs.GrammarWords.{takes, IsReferring, exprs_count, IsCall, bare_primary, WellPrimary, WellBelow, WellAll, WellList, ◌>>=◌, run_of}
use Rattle.mgrammar.proofs.GrammarWords.{after_run, number_at, is_digit_or_point, text_from, past, many, after_comma, list_at, Readers, reference_with}
use Rattle.mgrammar.proofs.GrammarWords.{bracket_with, choice_with, select_with, call_with, refer_with, function_by, special_by, dollar_by, dollar_with}
use Rattle.mgrammar.proofs.GrammarWords.{primary_with, nat_le}
use Rattle.mgrammar.proofs.ReadingBasics.{Takes, Again, Stops, Stops-weaker, Begins, Begins-weaker, Begins-append, goes_on, bind_some, chosen, some_is}
use Rattle.mgrammar.proofs.ReadingBasics.{run_parts, run_again, past_takes, not_past, text_takes, text_again}
use Rattle.mgrammar.proofs.ReadingActuals.{ActualEnds, called_takes, called_again}
use Rattle.mgrammar.proofs.ReadingNumbers.{number_takes, number_again, number_begins, goes_on_number}
use Rattle.mgrammar.proofs.ReadingLists.{each, joined_by, spell_more-each, many_takes, comma_takes, more_again, list_takes, list_again}
use Rattle.mgrammar.proofs.ReadingReferences.{OperandEnds, Ends, Greedy, TakesFree, AgainFree, operand_ends, greedy_ends, WellWithin, is_open, begins_reference}
use Rattle.mgrammar.proofs.ReadingReferences.{reference_takes_free, reference_again_free, reference_begins}
use Rattle.mgrammar.proofs.ReadingTrees.{WellInner, exprs_list, exprs_back, more_exprs-list, spell_exprs-list, count-length, exprs_well, exprs_inner}
use Rattle.mgrammar.proofs.ReadingTrees.{spell_choice, WellChoice, choices_list, choices_back, spell_choices-list, choices_well, choices_inner, WellHanded}

pub not_on : (c : ℕ) → goes_on c ≡ false → (goes_on_number c ≡ false) × (is_letter c ≡ false) × (eqb c 34 ≡ false) × (is_open c ≡ false)
not_on c h = (grind (arith, nat_tests), grind (arith, nat_tests), grind (arith, nat_tests), grind (arith, nat_tests))

-- ---- what is read is spelled so, below some depth

-- the text of a string, from the text after its first quote
cells : (c : ℕ) (cs : List ℕ) (a : ℕ) (t : List ℕ) (z : ℕ) (rest : List ℕ) → c ≡ a → cs ≡ t ++ z ∷ rest → c ∷ cs ≡ (a ∷ (t ++ z ∷ [])) ++ rest
cells c cs a t z rest p q = rw (p, q, append_assoc) refl

-- the text after the bracket of a function, and what follows the function
pub in_brackets : (w t rest : List ℕ) → (36 ∷ (w ++ 40 ∷ (t ++ 41 ∷ []))) ++ rest ≡ 36 ∷ (w ++ 40 ∷ (t ++ 41 ∷ rest))
in_brackets w t rest = simp append_assoc

-- the text of a function, from its parts
pub call_cells : (cs w after inside t t' last rest : List ℕ) → cs ≡ w ++ after → after ≡ 40 ∷ inside → inside ≡ t ++ last → last ≡ 41 ∷ rest → t' ≡ t
    → 36 ∷ cs ≡ (36 ∷ (w ++ 40 ∷ (t' ++ 41 ∷ []))) ++ rest
call_cells cs w after inside t t' last rest p q s u e =
    let whole : 36 ∷ cs ≡ 36 ∷ (w ++ 40 ∷ (t ++ 41 ∷ rest)) = rw (p, q, s, u) refl in
    whole ∙ sym (in_brackets w t rest) ∙ ap (λ (y : List ℕ). (36 ∷ (w ++ 40 ∷ (y ++ 41 ∷ []))) ++ rest) (sym e)

-- the text of a function of a variable, from its parts
pub refer_cells : (cs w after inside v t more more' last rest : List ℕ) → cs ≡ w ++ after → after ≡ 40 ∷ inside → inside ≡ v ++ t → t ≡ more ++ last → last ≡ 41 ∷ rest → more' ≡ more
    → 36 ∷ cs ≡ (36 ∷ (w ++ 40 ∷ (v ++ (more' ++ 41 ∷ [])))) ++ rest
refer_cells cs w after inside v t more more' last rest p q s u z e =
    let whole : 36 ∷ cs ≡ 36 ∷ (w ++ 40 ∷ (v ++ (more ++ 41 ∷ rest))) = rw (p, q, s, u, z) refl in
    let same : (36 ∷ (w ++ 40 ∷ (v ++ (more ++ 41 ∷ [])))) ++ rest ≡ 36 ∷ (w ++ 40 ∷ (v ++ (more ++ 41 ∷ rest))) = simp append_assoc in
    whole ∙ sym same ∙ ap (λ (y : List ℕ). (36 ∷ (w ++ 40 ∷ (v ++ (y ++ 41 ∷ [])))) ++ rest) (sym e)

-- what is read after a character is a primary
abbrev PrimaryIs : ℕ → List ℕ → PrimaryTree × List ℕ → Type 0
PrimaryIs d cs y = (cs ≡ spell_primary y.0 ++ y.1) × WellPrimary d y.0 × Greedy (bare_primary y.0) y.1

number_primary : (d : ℕ) (cs : List ℕ) (x : PrimaryTree × List ℕ) → (number_at cs >>= λ y. Some (number y.0, y.1)) ≡ Some x → PrimaryIs d cs x
number_primary d cs x e =
    let b = bind_some (number_at cs) (λ y. Some (number y.0, y.1)) x e in
    let t = number_takes cs b.0 b.1 in
    subst (PrimaryIs d cs) (some_is (number b.0.0, b.0.1) x b.2) (t.0, t.1, tt)

text_primary : (d c : ℕ) (cs : List ℕ) (x : PrimaryTree × List ℕ) → c ≡ 34 → (text_from false cs >>= λ y. Some (text y.0, y.1)) ≡ Some x → PrimaryIs d (c ∷ cs) x
text_primary d c cs x at e =
    let b = bind_some (text_from false cs) (λ y. Some (text y.0, y.1)) x e in
    let t = text_takes false cs b.0 b.1 in
    subst (PrimaryIs d (c ∷ cs)) (some_is (text b.0.0, b.0.1) x b.2) (cells c cs 34 (quoted b.0.0) 34 b.0.1 at t.0, t.1, tt)

-- arguments that were read are one or more
first_well : (d : ℕ) (es : List ExprTree) → WellList (WellInner d) es → (0 < d) × WellAll (WellInner d) es
first_well d [] w = absurd w
first_well d (e ∷ es) w = (w.0.0, w)

module _ (d : ℕ) (r : Readers) (inner_takes : Takes spell_expr (WellInner d) (r.inner)) (within_takes : Takes spell_reference (WellWithin d) (r.within)) (handed_takes : Takes spell_actual (WellHanded d) (r.handed)) (below_takes : TakesFree spell_primary (WellBelow d) bare_primary (r.below)) where
  bracket_primary : (c : ℕ) (cs : List ℕ) (x : PrimaryTree × List ℕ) → c ≡ 40 → bracket_with r cs ≡ Some x → PrimaryIs d (c ∷ cs) x
  unfolding bracket_with
  bracket_primary c cs x at e =
      let b = bind_some (r.inner cs) (λ y. past 41 y.1 >>= λ rest. Some (bracket y.0, rest)) x e in
      let k = bind_some (past 41 b.0.1) (λ rest. Some (bracket b.0.0, rest)) x b.2 in
      let t = inner_takes cs b.0 b.1 in
      let z = past_takes 41 b.0.1 k.0 k.1 in
      subst (PrimaryIs d (c ∷ cs)) (some_is (bracket b.0.0, k.0) x k.2)
      (cells c cs 40 (spell_expr b.0.0) 41 k.0 at (t.0 ∙ ap (λ (y : List ℕ). spell_expr b.0.0 ++ y) z), t.1, tt)

  choice_takes : Takes spell_choice (WellChoice d) (choice_with r)
  unfolding choice_with
  choice_takes cs x e =
      let c = bind_some (r.inner cs) (λ c. past 58 c.1 >>= λ rest. r.inner rest >>= λ v. Some ((c.0, v.0), v.1)) x e in
      let k = bind_some (past 58 c.0.1) (λ rest. r.inner rest >>= λ v. Some ((c.0.0, v.0), v.1)) x c.2 in
      let v = bind_some (r.inner k.0) (λ v. Some ((c.0.0, v.0), v.1)) x k.2 in
      let condition = inner_takes cs c.0 c.1 in
      let colon = past_takes 58 c.0.1 k.0 k.1 in
      let value = inner_takes k.0 v.0 v.1 in
      subst (λ (y : (ExprTree × ExprTree) × List ℕ). (cs ≡ spell_choice y.0 ++ y.1) × WellChoice d y.0) {x = ((c.0.0, v.0.0), v.0.1)} (some_is ((c.0.0, v.0.0), v.0.1) x v.2)
      (joined_by 58 cs (spell_expr c.0.0) c.0.1 k.0 (spell_expr v.0.0) v.0.1 condition.0 colon value.0, (condition.1, value.1))

  -- after a word and its bracket
  select_takes : (w cs ds after : List ℕ) (x : PrimaryTree × List ℕ) → ds ≡ w ++ after → after ≡ 40 ∷ cs → AllAre is_letter w → function_of w ≡ Some of_choices → select_with r w cs ≡ Some x
      → PrimaryIs d (36 ∷ ds) x
  unfolding select_with
  select_takes w cs ds after x p q l f e =
      let b = bind_some (list_at (choice_with r) cs) (λ y. past 41 y.1 >>= λ rest. Some (select w (choices_of y.0), rest)) x e in
      let k = bind_some (past 41 b.0.1) (λ rest. Some (select w (choices_of b.0.0), rest)) x b.2 in
      let t = list_takes spell_choice (WellChoice d) (choice_with r) choice_takes cs b.0 b.1 in
      let z = past_takes 41 b.0.1 k.0 k.1 in
      let well = choices_well d b.0.0 t.1 in
      subst (PrimaryIs d (36 ∷ ds)) (some_is (select w (choices_of b.0.0), k.0) x k.2)
      (call_cells ds w after cs (spell_list spell_choice b.0.0) (spell_choices (choices_of b.0.0)) b.0.1 k.0 p q t.0 z (spell_choices-list b.0.0), (well.0, (f, l), well.1, well.2), tt)

  call_takes : (g : ValueFunctionTree) (least : ℕ) (most : Option ℕ) (w cs ds after : List ℕ) (x : PrimaryTree × List ℕ) → ds ≡ w ++ after → after ≡ 40 ∷ cs → AllAre is_letter w → function_of w ≡ Some (of_values g least most) → call_with r least most w cs ≡ Some x
      → PrimaryIs d (36 ∷ ds) x
  unfolding call_with
  call_takes g least most w cs ds after x p q l f e =
      let b = bind_some (list_at (r.inner) cs) (λ y. past 41 y.1 >>= λ rest. cond (takes least most (length y.0)) (Some (call w (exprs_of y.0), rest)) None) x e in
      let k = bind_some (past 41 b.0.1) (λ rest. cond (takes least most (length b.0.0)) (Some (call w (exprs_of b.0.0), rest)) None) x b.2 in
      let t = list_takes spell_expr (WellInner d) (r.inner) inner_takes cs b.0 b.1 in
      let z = past_takes 41 b.0.1 k.0 k.1 in
      let first = first_well d b.0.0 t.1 in
      elim (chosen (takes least most (length b.0.0)) (Some (call w (exprs_of b.0.0), k.0)) None (Some x) k.2) [
        | inl u ↦
            let is : IsCall w (exprs_count (exprs_of b.0.0)) = (g, least, most, f, ap (takes least most) (count-length b.0.0) ∙ u.0) in
            subst (PrimaryIs d (36 ∷ ds)) (some_is (call w (exprs_of b.0.0), k.0) x u.1)
            (call_cells ds w after cs (spell_list spell_expr b.0.0) (spell_exprs (exprs_of b.0.0)) b.0.1 k.0 p q t.0 z (spell_exprs-list b.0.0), (first.0, l, is, exprs_well d b.0.0 first.1), tt)
        | inr u ↦ absurd cc
      ]

  refer_takes : (g : VariableFunctionTree) (most : ℕ) (w cs ds after : List ℕ) (x : PrimaryTree × List ℕ) → ds ≡ w ++ after → after ≡ 40 ∷ cs → AllAre is_letter w → function_of w ≡ Some (of_variable g most) → refer_with r most w cs ≡ Some x
      → PrimaryIs d (36 ∷ ds) x
  unfolding refer_with
  refer_takes g most w cs ds after x p q l f e =
      let v = bind_some (r.within cs) (λ v. many (after_comma (r.inner)) (length v.1) v.1 >>= λ y. past 41 y.1 >>= λ rest. cond (nat_le (length y.0) most) (Some (refer w v.0 (exprs_of y.0), rest)) None) x e in
      let b = bind_some (many (after_comma (r.inner)) (length v.0.1) v.0.1) (λ y. past 41 y.1 >>= λ rest. cond (nat_le (length y.0) most) (Some (refer w v.0.0 (exprs_of y.0), rest)) None) x v.2 in
      let k = bind_some (past 41 b.0.1) (λ rest. cond (nat_le (length b.0.0) most) (Some (refer w v.0.0 (exprs_of b.0.0), rest)) None) x b.2 in
      let variable = within_takes cs v.0 v.1 in
      let more = many_takes (λ a. 44 ∷ spell_expr a) (WellInner d) (after_comma (r.inner)) (comma_takes spell_expr (WellInner d) (r.inner) inner_takes) (length v.0.1) v.0.1 b.0 b.1 in
      let z = past_takes 41 b.0.1 k.0 k.1 in
      elim (chosen (nat_le (length b.0.0) most) (Some (refer w v.0.0 (exprs_of b.0.0), k.0)) None (Some x) k.2) [
        | inl u ↦
            let is : IsReferring w (exprs_count (exprs_of b.0.0)) = (g, most, f, ap (λ (n : ℕ). nat_le n most) (count-length b.0.0) ∙ u.0) in
            subst (PrimaryIs d (36 ∷ ds)) {x = (refer w v.0.0 (exprs_of b.0.0), k.0)} (some_is (refer w v.0.0 (exprs_of b.0.0), k.0) x u.1) (
              refer_cells ds w after cs (spell_reference v.0.0) v.0.1 (each (λ a. 44 ∷ spell_expr a) b.0.0) (spell_more_exprs (exprs_of b.0.0)) b.0.1 k.0 p q variable.0 more.0 z (more_exprs-list b.0.0 ∙ spell_more-each spell_expr b.0.0),
              (variable.1.0, l, is, variable.1.1, exprs_well d b.0.0 more.1),
              tt,
            )
        | inr u ↦ absurd cc
      ]

  function_takes : (w cs ds after : List ℕ) (o : Option FunctionTree) (x : PrimaryTree × List ℕ) → ds ≡ w ++ after → after ≡ 40 ∷ cs → AllAre is_letter w → function_of w ≡ o → function_by r w o cs ≡ Some x
      → PrimaryIs d (36 ∷ ds) x
  function_takes w cs ds after None x p q l f e = absurd cc
  function_takes w cs ds after (Some (of_values g least most)) x p q l f e = call_takes g least most w cs ds after x p q l f e
  function_takes w cs ds after (Some (of_variable g most)) x p q l f e = refer_takes g most w cs ds after x p q l f e
  function_takes w cs ds after (Some of_choices) x p q l f e = select_takes w cs ds after x p q l f e

  special_takes : (w cs ds : List ℕ) (o : Option SpecialTree) (x : PrimaryTree × List ℕ) → ds ≡ w ++ cs → AllAre is_letter w → special_of w ≡ o → special_by r w o cs ≡ Some x → PrimaryIs d (36 ∷ ds) x
  special_takes w cs ds None x p l f e = absurd cc
  special_takes w cs ds (Some v) x p l f e = subst (PrimaryIs d (36 ∷ ds)) (some_is (special w, cs) x e) (ap (λ (y : List ℕ). 36 ∷ y) p, (l, (v, f)), tt)

  dollar_takes : (w after ds : List ℕ) (o : Option (List ℕ)) (x : PrimaryTree × List ℕ) → ds ≡ w ++ after → AllAre is_letter w → past 40 after ≡ o → dollar_by r w after o ≡ Some x → PrimaryIs d (36 ∷ ds) x
  dollar_takes w after ds None x p l h e = special_takes w after ds (special_of w) x p l refl e
  dollar_takes w after ds (Some inside) x p l h e = function_takes w inside ds after (function_of w) x p (past_takes 40 after inside h) l refl e

  dollars_take : (cs : List ℕ) (o : Option (List ℕ)) (x : PrimaryTree × List ℕ) → past 36 cs ≡ o → dollars_by r cs o ≡ Some x → PrimaryIs d (36 ∷ cs) x
  dollars_take cs None x h e =
      let w = run_of is_letter cs in
      let after = after_run is_letter cs in
      let parts = run_parts is_letter cs in
      dollar_takes w after cs (past 40 after) x parts.0 parts.1 refl e
  dollars_take cs (Some behind) x h e =
      let b = bind_some (called_with r behind) (λ x. Some (extrinsic x.0.0 x.0.1, x.1)) x e in
      let t = called_takes d r handed_takes behind b.0 b.1 in
      subst (PrimaryIs d (36 ∷ cs)) {x = (extrinsic b.0.0.0 b.0.0.1, b.0.1)} (some_is (extrinsic b.0.0.0 b.0.0.1, b.0.1) x b.2)
      (ap (λ (y : List ℕ). 36 ∷ y) (past_takes 36 cs behind h ∙ ap (λ (y : List ℕ). 36 ∷ y) t.0), t.1, tt)

  dollar_primary : (c : ℕ) (cs : List ℕ) (x : PrimaryTree × List ℕ) → c ≡ 36 → dollar_with r cs ≡ Some x → PrimaryIs d (c ∷ cs) x
  unfolding dollar_with
  dollar_primary c cs x at e =
      let is = dollars_take cs (past 36 cs) x refl e in
      (ap (λ (y : ℕ). y ∷ cs) at ∙ is.0, is.1, is.2)

  reference_primary : (cs : List ℕ) (x : PrimaryTree × List ℕ) → (reference_with r cs >>= λ v. Some (reference v.0, v.1)) ≡ Some x → PrimaryIs d cs x
  reference_primary cs x e =
      let b = bind_some (reference_with r cs) (λ v. Some (reference v.0, v.1)) x e in
      subst (PrimaryIs d cs) (some_is (reference b.0.0, b.0.1) x b.2) (reference_takes_free d r inner_takes below_takes cs b.0 b.1)

  pub primary_takes_free : TakesFree spell_primary (WellPrimary d) bare_primary (primary_with r)
  unfolding primary_with
  primary_takes_free [] x e = absurd cc
  primary_takes_free (c ∷ cs) x e =
      elim (chosen (is_digit_or_point c) (number_at (c ∷ cs) >>= λ y. Some (number y.0, y.1)) _ (Some x) e) [
        | inl p ↦ number_primary d (c ∷ cs) x p.1
        | inr p ↦ elim (chosen (eqb c 34) (text_from false cs >>= λ y. Some (text y.0, y.1)) _ (Some x) p.1) [
          | inl q ↦ text_primary d c cs x (eqb-true _ _ q.0) q.1
          | inr q ↦ elim (chosen (eqb c 40) (bracket_with r cs) _ (Some x) q.1) [
            | inl s ↦ bracket_primary c cs x (eqb-true _ _ s.0) s.1
            | inr s ↦ elim (chosen (eqb c 36) (dollar_with r cs) _ (Some x) s.1) [
              | inl t ↦ dollar_primary c cs x (eqb-true _ _ t.0) t.1
              | inr t ↦ reference_primary (c ∷ cs) x t.1
            ]
          ]
        ]
      ]

  pub primary_takes : Takes spell_primary (WellPrimary d) (primary_with r)
  primary_takes cs x e = let t = primary_takes_free cs x e in (t.0, t.1)

-- ---- where a primary begins

-- a character that a primary begins with
abbrev pub begins_primary : ℕ → Bool
begins_primary c = is_digit_or_point c || begins_reference c || eqb c 34 || eqb c 40 || eqb c 36

variable_begins : (c : ℕ) → begins_reference c ≡ true → begins_primary c ≡ true
variable_begins c h = grind (arith, nat_tests)

digit_or_point_begins : (c : ℕ) → is_digit_or_point c ≡ true → begins_primary c ≡ true
digit_or_point_begins c h = grind (arith, nat_tests)

pub primary_begins : (d : ℕ) (p : PrimaryTree) → WellPrimary d p → Begins begins_primary (spell_primary p)
primary_begins d (number t) w = Begins-weaker is_digit_or_point begins_primary t digit_or_point_begins (number_begins t w)
primary_begins d (reference v) w = Begins-weaker begins_reference begins_primary (spell_reference v) variable_begins (reference_begins d v w)
primary_begins d p w = refl

-- ---- what is spelled so is read, below some depth

pub reference_tests : (c : ℕ) → begins_reference c ≡ true → (is_digit_or_point c ≡ false) × (eqb c 34 ≡ false) × (eqb c 40 ≡ false) × (eqb c 36 ≡ false)
reference_tests c h = (grind (arith, nat_tests), grind (arith, nat_tests), grind (arith, nat_tests), grind (arith, nat_tests))

number_step : (r : Readers) (cs t rest : List ℕ) → Begins is_digit_or_point cs → number_at cs ≡ Some (t, rest) → primary_with r cs ≡ Some (number t, rest)
unfolding primary_with
number_step r [] t rest b e = absurd b
number_step r (c ∷ cs) t rest b e = rw (b, e) refl

text_step : (r : Readers) (t rest : List ℕ) → AllAre is_character t → Stops (λ c. eqb c 34) rest → primary_with r (34 ∷ (quoted t ++ 34 ∷ rest)) ≡ Some (text t, rest)
unfolding primary_with
text_step r t rest w s = rw (text_again t rest w s) refl

variable_step : (r : Readers) (cs : List ℕ) (v : ReferenceTree) (rest : List ℕ) → Begins begins_reference cs → reference_with r cs ≡ Some (v, rest) → primary_with r cs ≡ Some (reference v, rest)
unfolding primary_with
variable_step r [] v rest b h = absurd b
variable_step r (c ∷ cs) v rest b h =
    let t = reference_tests c b in
    rw (t.0, t.1, t.2, t.3, h) refl

bracket_step : (r : Readers) (cs : List ℕ) (e : ExprTree) (rest : List ℕ) → r.inner cs ≡ Some (e, 41 ∷ rest) → primary_with r (40 ∷ cs) ≡ Some (bracket e, rest)
unfolding primary_with bracket_with
bracket_step r cs e rest h = rw h refl

choice_step : (r : Readers) (cs ds : List ℕ) (c v : ExprTree) (rest : List ℕ) → r.inner cs ≡ Some (c, 58 ∷ ds) → r.inner ds ≡ Some (v, rest) → choice_with r cs ≡ Some ((c, v), rest)
unfolding choice_with
choice_step r cs ds c v rest h k = rw (h, k) refl

-- after a word and its bracket
select_step : (r : Readers) (w cs : List ℕ) (all : List (ExprTree × ExprTree)) (rest : List ℕ) → function_of w ≡ Some of_choices → list_at (choice_with r) cs ≡ Some (all, 41 ∷ rest)
    → function_by r w (function_of w) cs ≡ Some (select w (choices_of all), rest)
unfolding select_with
select_step r w cs all rest f h = rw (f, h) refl

call_step : (r : Readers) (g : ValueFunctionTree) (least : ℕ) (most : Option ℕ) (w cs : List ℕ) (args : List ExprTree) (rest : List ℕ) → function_of w ≡ Some (of_values g least most) → takes least most (length args) ≡ true
    → list_at (r.inner) cs ≡ Some (args, 41 ∷ rest) → function_by r w (function_of w) cs ≡ Some (call w (exprs_of args), rest)
unfolding call_with
call_step r g least most w cs args rest f t h = rw (f, h, t) refl

refer_step : (r : Readers) (g : VariableFunctionTree) (most : ℕ) (w cs t : List ℕ) (v : ReferenceTree) (more : List ExprTree) (rest : List ℕ) → function_of w ≡ Some (of_variable g most) → nat_le (length more) most ≡ true
    → r.within cs ≡ Some (v, t) → many (after_comma (r.inner)) (length t) t ≡ Some (more, 41 ∷ rest) → function_by r w (function_of w) cs ≡ Some (refer w v (exprs_of more), rest)
unfolding refer_with
refer_step r g most w cs t v more rest f u h k = rw (f, h, k, u) refl

letter_no_dollar : (c : ℕ) → is_letter c ≡ true → eqb c 36 ≡ false
letter_no_dollar c h = grind (arith, nat_tests)

-- no further `$` stands where a word begins, or where none does
word_no_dollar : (w rest : List ℕ) → AllAre is_letter w → Stops (λ c. eqb c 36) rest → past 36 (w ++ rest) ≡ None
word_no_dollar [] rest l s = not_past 36 rest s
word_no_dollar (c ∷ w) rest l s = rw (letter_no_dollar c l.0) refl

function_step : (r : Readers) (w cs : List ℕ) (p : PrimaryTree) (rest : List ℕ) → AllAre is_letter w → function_by r w (function_of w) cs ≡ Some (p, rest) → primary_with r (36 ∷ (w ++ 40 ∷ cs)) ≡ Some (p, rest)
unfolding primary_with dollar_with
function_step r w cs p rest l h =
    let i = run_again is_letter w (40 ∷ cs) l refl in
    rw (word_no_dollar w (40 ∷ cs) l refl, i.0, i.1) h

-- no bracket opens here
no_bracket : (cs : List ℕ) → Stops is_open cs → past 40 cs ≡ None
no_bracket [] s = refl
no_bracket (c ∷ cs) s = rw s refl

no_word : special_of [] ≡ None
unfolding special_of
no_word = refl

special_step : (r : Readers) (w rest : List ℕ) (v : SpecialTree) → AllAre is_letter w → special_of w ≡ Some v → Stops is_letter rest → Stops is_open rest → primary_with r (36 ∷ (w ++ rest)) ≡ Some (special w, rest)
unfolding primary_with dollar_with
special_step r [] rest v l f s t = absurd (let clash : None ≡ Some v = sym no_word ∙ f in cc)
special_step r (c ∷ w) rest v l f s t =
    let i = run_again is_letter (c ∷ w) rest l s in
    let first : past 36 (c ∷ (w ++ rest)) ≡ None = rw (letter_no_dollar c l.0) refl in
    rw (first, i.0, i.1, no_bracket rest t, f) refl

extrinsic_step : (r : Readers) (cs : List ℕ) (x : EntryTree × ActualsTree) (rest : List ℕ) → called_with r cs ≡ Some (x, rest) → primary_with r (36 ∷ 36 ∷ cs) ≡ Some (extrinsic x.0 x.1, rest)
unfolding primary_with dollar_with
extrinsic_step r cs x rest h = rw h refl

-- the text of a function of a variable, and what follows it
pub refer_spread : (w v more rest : List ℕ) → (36 ∷ (w ++ 40 ∷ (v ++ (more ++ 41 ∷ [])))) ++ rest ≡ 36 ∷ (w ++ 40 ∷ (v ++ (more ++ 41 ∷ rest)))
refer_spread w v more rest = simp append_assoc

-- what follows a variable there
pub more_ends : (es : List ExprTree) (rest : List ℕ) → OperandEnds (spell_more spell_expr es ++ 41 ∷ rest)
more_ends [] rest = refl
more_ends (e ∷ es) rest = refl

module _ (d : ℕ) (r : Readers) (inner_again : Again spell_expr (WellInner d) Ends (r.inner)) (within_again : Again spell_reference (WellWithin d) OperandEnds (r.within)) (handed_again : Again spell_actual (WellHanded d) ActualEnds (r.handed)) (below_again : AgainFree spell_primary (WellBelow d) bare_primary (r.below)) where
  choice_again : Again spell_choice (WellChoice d) Ends (choice_with r)
  choice_again c rest w s =
      ap (choice_with r) (append_assoc (spell_expr c.0) (58 ∷ spell_expr c.1) rest)
      ∙ choice_step r (spell_expr c.0 ++ 58 ∷ (spell_expr c.1 ++ rest)) (spell_expr c.1 ++ rest) c.0 c.1 rest
      (inner_again c.0 (58 ∷ (spell_expr c.1 ++ rest)) w.0 (refl, refl)) (inner_again c.1 rest w.1 s)

  select_again : (w : List ℕ) (all : ChoicesTree) (rest : List ℕ) → WellPrimary d (select w all) → primary_with r (spell_primary (select w all) ++ rest) ≡ Some (select w all, rest)
  select_again w all rest h =
      let cs = choices_list all in
      let same : spell_choices all ≡ spell_list spell_choice cs = ap spell_choices (sym (choices_back all)) ∙ spell_choices-list cs in
      let l = list_again spell_choice (WellChoice d) (choice_with r) Ends (λ more. (refl, refl)) choice_again cs (41 ∷ rest) (choices_inner d all h.0 h.2 h.3) ((refl, refl), refl) in
      let tail = function_step r w (spell_list spell_choice cs ++ 41 ∷ rest) (select w (choices_of cs)) rest h.1.1 (select_step r w (spell_list spell_choice cs ++ 41 ∷ rest) cs rest h.1.0 l) in
      ap (primary_with r) (in_brackets w (spell_choices all) rest ∙ ap (λ (y : List ℕ). 36 ∷ (w ++ 40 ∷ (y ++ 41 ∷ rest))) same)
      ∙ tail ∙ ap (λ (y : ChoicesTree). Some (select w y, rest)) (choices_back all)

  exprs_some : (least : ℕ) (most : Option ℕ) (es : List ExprTree) → takes least most (length es) ≡ true → WellAll (WellInner d) es → WellList (WellInner d) es
  exprs_some least most [] t w = absurd cc
  exprs_some least most (e ∷ es) t w = w

  call_again : (w : List ℕ) (args : ExprsTree) (rest : List ℕ) → WellPrimary d (call w args) → primary_with r (spell_primary (call w args) ++ rest) ≡ Some (call w args, rest)
  call_again w args rest h =
      let es = exprs_list args in
      let least = h.2.1 in
      let most = h.2.2 in
      let same : spell_exprs args ≡ spell_list spell_expr es = ap spell_exprs (sym (exprs_back args)) ∙ spell_exprs-list es in
      let count : takes least most (length es) ≡ true = ap (takes least most) (sym (count-length es) ∙ ap exprs_count (exprs_back args)) ∙ h.2.4 in
      let l = list_again spell_expr (WellInner d) (r.inner) Ends (λ more. (refl, refl)) inner_again es (41 ∷ rest) (exprs_some least most es count (exprs_inner d args h.0 h.3)) ((refl, refl), refl) in
      let tail = function_step r w (spell_list spell_expr es ++ 41 ∷ rest) (call w (exprs_of es)) rest h.1 (call_step r h.2.0 least most w (spell_list spell_expr es ++ 41 ∷ rest) es rest h.2.3 count l) in
      ap (primary_with r) (in_brackets w (spell_exprs args) rest ∙ ap (λ (y : List ℕ). 36 ∷ (w ++ 40 ∷ (y ++ 41 ∷ rest))) same)
      ∙ tail ∙ ap (λ (y : ExprsTree). Some (call w y, rest)) (exprs_back args)

  refer_again : (w : List ℕ) (v : ReferenceTree) (more : ExprsTree) (rest : List ℕ) → WellPrimary d (refer w v more) → primary_with r (spell_primary (refer w v more) ++ rest) ≡ Some (refer w v more, rest)
  refer_again w v more rest h =
      let es = exprs_list more in
      let most = h.2.1 in
      let same : spell_more_exprs more ≡ spell_more spell_expr es = ap spell_more_exprs (sym (exprs_back more)) ∙ more_exprs-list es in
      let count : nat_le (length es) most ≡ true = ap (λ (n : ℕ). nat_le n most) (sym (count-length es) ∙ ap exprs_count (exprs_back more)) ∙ h.2.3 in
      let t : List ℕ = spell_more spell_expr es ++ 41 ∷ rest in
      let variable = within_again v t (h.0, h.3) (more_ends es rest) in
      let others = more_again spell_expr (WellInner d) (r.inner) Ends (λ more. (refl, refl)) inner_again es (41 ∷ rest) (exprs_inner d more h.0 h.4) (refl, refl) refl in
      let tail = function_step r w (spell_reference v ++ t) (refer w v (exprs_of es)) rest h.1 (refer_step r h.2.0 most w (spell_reference v ++ t) t v es rest h.2.2 count variable others) in
      ap (primary_with r) (refer_spread w (spell_reference v) (spell_more_exprs more) rest ∙ ap (λ (y : List ℕ). 36 ∷ (w ++ 40 ∷ (spell_reference v ++ (y ++ 41 ∷ rest)))) same)
      ∙ tail ∙ ap (λ (y : ExprsTree). Some (refer w v y, rest)) (exprs_back more)

  pub primary_again_free : AgainFree spell_primary (WellPrimary d) bare_primary (primary_with r)
  primary_again_free (number t) rest w s g =
      number_step r (t ++ rest) t rest (Begins-append is_digit_or_point t rest (number_begins t w)) (number_again t rest w (Stops-weaker goes_on goes_on_number rest (λ c h. (not_on c h).0) s))
  primary_again_free (text t) rest w s g =
      ap (λ (y : List ℕ). primary_with r (34 ∷ y)) (append_assoc (quoted t) (34 ∷ []) rest)
      ∙ text_step r t rest w (Stops-weaker goes_on (λ c. eqb c 34) rest (λ c h. (not_on c h).2) s)
  primary_again_free (special word) rest w s g =
      special_step r word rest w.1.0 w.0 w.1.1 (Stops-weaker goes_on is_letter rest (λ c h. (not_on c h).1) s) (Stops-weaker goes_on is_open rest (λ c h. (not_on c h).3) s)
  primary_again_free (reference v) rest w s g =
      variable_step r (spell_reference v ++ rest) v rest (Begins-append begins_reference (spell_reference v) rest (reference_begins d v w)) (reference_again_free d r inner_again below_again v rest w s g)
  primary_again_free (refer word v more) rest w s g = refer_again word v more rest w
  primary_again_free (bracket e) rest w s g =
      ap (λ (y : List ℕ). primary_with r (40 ∷ y)) (append_assoc (spell_expr e) (41 ∷ []) rest)
      ∙ bracket_step r (spell_expr e ++ 41 ∷ rest) e rest (inner_again e (41 ∷ rest) w (refl, refl))
  primary_again_free (call word args) rest w s g = call_again word args rest w
  primary_again_free (select word all) rest w s g = select_again word all rest w
  primary_again_free (extrinsic e xs) rest w s g = extrinsic_step r (spell_called (e, xs) ++ rest) (e, xs) rest (called_again d r handed_again (e, xs) rest w s)

  pub primary_again : Again spell_primary (WellPrimary d) OperandEnds (primary_with r)
  primary_again p rest w s = primary_again_free p rest w (operand_ends rest s) (greedy_ends (bare_primary p) rest s)
