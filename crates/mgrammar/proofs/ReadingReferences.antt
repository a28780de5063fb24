-- SPDX-License-Identifier: Apache-2.0
-- What is read of a variable is spelled so, and what is spelled so is read.
use Rattle.mgrammar.proofs.GrammarWords.{◌≡◌, ℕ, ◌<◌, ◌-◌, Bool, true, false, eqb, List, [], ◌∷◌, ◌++◌, Option, Some, None, inl, inr, refl, sym, ap, subst, ◌∙◌}
use Rattle.mgrammar.proofs.GrammarWords.{append_assoc, arith, eqb-true, nat_tests, append-nil, ◌||◌, is_name_start, is_name_rest, IsName, ExprTree, PrimaryTree}
use Rattle.mgrammar.proofs.GrammarWords.{ExprsTree, no_exprs, exprs, exprs_of, ReferenceTree, local, global, naked, indirect, extended, spell_expr}
use Rattle.mgrammar.proofs.GrammarWords.{spell_primary, spell_more, spell_list, spell_more_exprs, spell_subscripts, spell_attached, spell_reference, HasExpr}
use Rattle.mgrammar.proofs.GrammarWords.{bare_reference, bare_primary, IsAttached, WellSubscripts, WellReference, WellBelow, WellList, Read, ◌>>=◌, name_at}
use Rattle.mgrammar.proofs.GrammarWords.{past, list_at, Readers, attached_at, subscripts_with, attached_by, attached_with, indirect_with, local_by}
use Rattle.mgrammar.proofs.GrammarWords.{extended_with, owned_by, global_by, reference_by, reference_with}
use Rattle.mgrammar.proofs.ReadingBasics.{IsRead, Takes, Again, Stops, Stops-weaker, Begins, Begins-stops, Begins-append, Begins-weaker, goes_on, goes_further}
use Rattle.mgrammar.proofs.ReadingBasics.{bind_some, chosen, some_is, past_takes, not_past, name_takes, name_again}
use Rattle.mgrammar.proofs.ReadingOperators.{is_operator}
use Rattle.mgrammar.proofs.ReadingLists.{joined, enclosed, list_takes, list_again}
use Rattle.mgrammar.proofs.ReadingTrees.{WellInner, exprs_list, exprs_back, more_exprs-list, exprs_well, exprs_inner}

-- what may follow an operand: nothing that goes on with it
abbrev pub OperandEnds : List ℕ → Type 0
OperandEnds rest = Stops goes_further rest

-- what may follow an expression: that, and no operator
abbrev pub Ends : List ℕ → Type 0
Ends rest = OperandEnds rest × Stops is_operator rest

-- what may not follow an `@` with its operand alone: subscripts after a further `@`
abbrev pub Greedy : Option PrimaryTree → List ℕ → Type 0
Greedy None rest = Unit {0}
Greedy (Some p) rest = attached_at rest ≡ None

-- the laws of a reader, where a further `@` may follow
abbrev pub TakesFree : {A : Type 0} → (A → List ℕ) → (A → Type 0) → (A → Option PrimaryTree) → (List ℕ → Read A) → Type 0
TakesFree {A} spell P bare read = (cs : List ℕ) (x : A × List ℕ) → read cs ≡ Some x → (cs ≡ spell x.0 ++ x.1) × P x.0 × Greedy (bare x.0) x.1

abbrev pub AgainFree : {A : Type 0} → (A → List ℕ) → (A → Type 0) → (A → Option PrimaryTree) → (List ℕ → Read A) → Type 0
AgainFree {A} spell P bare read = (x : A) (rest : List ℕ) → P x → Stops goes_on rest → Greedy (bare x) rest → read (spell x ++ rest) ≡ Some (x, rest)

-- no `@` follows
no_attached : (rest : List ℕ) → Stops (λ c. eqb c 64) rest → attached_at rest ≡ None
no_attached rest s = rw (not_past 64 rest s) refl

greedy_end : (o : Option PrimaryTree) (rest : List ℕ) → Stops (λ c. eqb c 64) rest → Greedy o rest
greedy_end None rest s = tt
greedy_end (Some p) rest s = no_attached rest s

further_tests : (c : ℕ) → goes_further c ≡ false → (goes_on c ≡ false) × (eqb c 64 ≡ false)
further_tests c h = (grind (arith, nat_tests), grind (arith, nat_tests))

pub operand_ends : (rest : List ℕ) → OperandEnds rest → Stops goes_on rest
operand_ends rest s = Stops-weaker goes_further goes_on rest (λ c h. (further_tests c h).0) s

pub greedy_ends : (o : Option PrimaryTree) (rest : List ℕ) → OperandEnds rest → Greedy o rest
greedy_ends o rest s = greedy_end o rest (Stops-weaker goes_further (λ c. eqb c 64) rest (λ c h. (further_tests c h).1) s)

-- a variable in brackets, if this many more brackets may be open
abbrev pub WellWithin : ℕ → ReferenceTree → Type 0
WellWithin d r = (0 < d) × WellReference (d - 1) r

abbrev pub is_open : ℕ → Bool
is_open c = eqb c 40

-- ---- what is read is spelled so

-- the text of subscripts, as that of a list
bracketed : (e : ExprTree) (es : List ExprTree) → spell_subscripts (exprs_of (e ∷ es)) ≡ 40 ∷ (spell_list spell_expr (e ∷ es) ++ 41 ∷ [])
bracketed e es =
    ap (λ (y : List ℕ). 40 ∷ (spell_expr e ++ (y ++ 41 ∷ []))) (more_exprs-list es)
    ∙ ap (λ (y : List ℕ). 40 ∷ y) (sym (append_assoc (spell_expr e) (spell_more spell_expr es) (41 ∷ [])))

subscripts_are : (d : ℕ) (es : List ExprTree) → WellList (WellInner d) es → (spell_subscripts (exprs_of es) ≡ 40 ∷ (spell_list spell_expr es ++ 41 ∷ [])) × WellSubscripts d (exprs_of es) × HasExpr (exprs_of es)
subscripts_are d [] w = absurd w
subscripts_are d (e ∷ es) w = (bracketed e es, (w.0.0, w.0.1, exprs_well d es w.1), tt)

-- what was read of subscripts in brackets
abbrev SomeAre : ℕ → List ℕ → ExprsTree × List ℕ → Type 0
SomeAre d cs x = IsRead spell_subscripts (WellSubscripts d) cs x × HasExpr x.0

-- what was read of a variable
abbrev ReferenceIs : ℕ → List ℕ → ReferenceTree × List ℕ → Type 0
ReferenceIs d cs x = (cs ≡ spell_reference x.0 ++ x.1) × WellReference d x.0 × Greedy (bare_reference x.0) x.1

-- what was read of subscripts after an operand, of which the innermost `@` without any keeps them
abbrev AttachedAre : ℕ → List ℕ → ExprsTree × List ℕ → Type 0
AttachedAre d cs x =
    (cs ≡ spell_attached x.0 ++ x.1) × WellSubscripts d x.0
    × ((p : PrimaryTree) → Greedy (bare_primary p) cs → IsAttached p x.0 × Greedy (bare_reference (indirect p x.0)) x.1)

-- a bracket comes after an `@`
attached_is : (cs behind : List ℕ) → attached_at cs ≡ Some behind → (cs ≡ 64 ∷ behind) × ((inside : List ℕ) × (behind ≡ 40 ∷ inside))
attached_is cs behind e =
    let b = bind_some (past 64 cs) (λ behind. past 40 behind >>= λ inside. Some behind) behind e in
    let k = bind_some (past 40 b.0) (λ inside. Some b.0) behind b.2 in
    let same : b.0 ≡ behind = some_is b.0 behind k.2 in
    let front : cs ≡ 64 ∷ b.0 = past_takes 64 cs b.0 b.1 in
    (front ∙ ap (λ (y : List ℕ). 64 ∷ y) same, (k.0, sym same ∙ past_takes 40 b.0 k.0 k.1))

not_bare : (o : Option PrimaryTree) (cs behind : List ℕ) → Greedy o cs → attached_at cs ≡ Some behind → o ≡ None
not_bare None cs behind g e = refl
not_bare (Some p) cs behind g e = absurd (let clash : None ≡ Some behind = sym g ∙ e in cc)

some_kept : (p : PrimaryTree) (s : ExprsTree) (rest : List ℕ) → HasExpr s → bare_primary p ≡ None → IsAttached p s × Greedy (bare_reference (indirect p s)) rest
some_kept p no_exprs rest h n = absurd h
some_kept p (exprs e es) rest h n = (n, tt)

attached_spell : (s : ExprsTree) → HasExpr s → spell_attached s ≡ 64 ∷ spell_subscripts s
attached_spell no_exprs h = absurd h
attached_spell (exprs e es) h = refl

module _ (d : ℕ) (r : Readers) (inner_takes : Takes spell_expr (WellInner d) (r.inner)) (below_takes : TakesFree spell_primary (WellBelow d) bare_primary (r.below)) where
  some_subscripts : (c : ℕ) (cs : List ℕ) (x : ExprsTree × List ℕ) → c ≡ 40 → (list_at (r.inner) cs >>= λ x. past 41 x.1 >>= λ rest. Some (exprs_of x.0, rest)) ≡ Some x → SomeAre d (c ∷ cs) x
  some_subscripts c cs x at e =
      let b = bind_some (list_at (r.inner) cs) (λ x. past 41 x.1 >>= λ rest. Some (exprs_of x.0, rest)) x e in
      let k = bind_some (past 41 b.0.1) (λ rest. Some (exprs_of b.0.0, rest)) x b.2 in
      let t = list_takes spell_expr (WellInner d) (r.inner) inner_takes cs b.0 b.1 in
      let z = past_takes 41 b.0.1 k.0 k.1 in
      let are = subscripts_are d b.0.0 t.1 in
      subst (SomeAre d (c ∷ cs)) {x = (exprs_of b.0.0, k.0)} (some_is (exprs_of b.0.0, k.0) x k.2)
      ((enclosed c cs (spell_list spell_expr b.0.0) b.0.1 k.0 at t.0 z ∙ ap (λ (y : List ℕ). y ++ k.0) (sym are.0), are.1), are.2)

  subscripts_takes : Takes spell_subscripts (WellSubscripts d) (subscripts_with r)
  unfolding subscripts_with
  subscripts_takes [] x e = subst (IsRead spell_subscripts (WellSubscripts d) []) {x = (no_exprs, [])} (some_is (no_exprs, []) x e) (refl, tt)
  subscripts_takes (c ∷ cs) x e =
      elim (chosen (eqb c 40) (list_at (r.inner) cs >>= λ x. past 41 x.1 >>= λ rest. Some (exprs_of x.0, rest)) (Some (no_exprs, c ∷ cs)) (Some x) e) [
        | inl p ↦ (some_subscripts c cs x (eqb-true _ _ p.0) p.1).0
        | inr p ↦ subst (IsRead spell_subscripts (WellSubscripts d) (c ∷ cs)) {x = (no_exprs, c ∷ cs)} (some_is (no_exprs, c ∷ cs) x p.1) (refl, tt)
      ]

  -- if a bracket opens, some are read
  opened_takes : (cs inside : List ℕ) (x : ExprsTree × List ℕ) → cs ≡ 40 ∷ inside → subscripts_with r cs ≡ Some x → SomeAre d cs x
  unfolding subscripts_with
  opened_takes [] inside x p e = absurd cc
  opened_takes (c ∷ cs) inside x p e =
      let at : c ≡ 40 = cc in
      some_subscripts c cs x at (rw at at e)

  -- a name and its subscripts, of which a variable is made
  named_takes : (made : List ℕ → ExprsTree → ReferenceTree) (Is : ReferenceTree × List ℕ → Type 0) (cs : List ℕ) (x : ReferenceTree × List ℕ)
      → (name_at cs >>= λ n. subscripts_with r n.1 >>= λ x. Some (made n.0 x.0, x.1)) ≡ Some x
      → ((n : List ℕ) (s : ExprsTree) (rest : List ℕ) → cs ≡ (n ++ spell_subscripts s) ++ rest → IsName n → WellSubscripts d s → Is (made n s, rest)) → Is x
  named_takes made Is cs x e is =
      let n = bind_some (name_at cs) (λ n. subscripts_with r n.1 >>= λ x. Some (made n.0 x.0, x.1)) x e in
      let s = bind_some (subscripts_with r n.0.1) (λ x. Some (made n.0.0 x.0, x.1)) x n.2 in
      let name = name_takes cs n.0 n.1 in
      let subscripts = subscripts_takes n.0.1 s.0 s.1 in
      subst Is {x = (made n.0.0 s.0.0, s.0.1)} (some_is (made n.0.0 s.0.0, s.0.1) x s.2)
      (is n.0.0 s.0.0 s.0.1 (joined cs n.0.0 n.0.1 (spell_subscripts s.0.0) s.0.1 (spell_subscripts s.0.0) name.0 subscripts.0 refl) name.1 subscripts.1)

  attached_takes_by : (cs : List ℕ) (o : Option (List ℕ)) (x : ExprsTree × List ℕ) → attached_at cs ≡ o → attached_by r cs o ≡ Some x → AttachedAre d cs x
  attached_takes_by cs None x h e = subst (AttachedAre d cs) {x = (no_exprs, cs)} (some_is (no_exprs, cs) x e) (refl, tt, λ p g. (tt, h))
  attached_takes_by cs (Some behind) x h e =
      let is = attached_is cs behind h in
      let s = opened_takes behind is.1.0 x is.1.1 e in
      let front : cs ≡ spell_attached x.0 ++ x.1 = is.0 ∙ ap (λ (y : List ℕ). 64 ∷ y) s.0.0 ∙ ap (λ (y : List ℕ). y ++ x.1) (sym (attached_spell x.0 s.1)) in
      (front, s.0.1, λ p g. some_kept p x.0 x.1 s.1 (not_bare (bare_primary p) cs behind g h))

  attached_takes : (cs : List ℕ) (x : ExprsTree × List ℕ) → attached_with r cs ≡ Some x → AttachedAre d cs x
  unfolding attached_with
  attached_takes cs x e = attached_takes_by cs (attached_at cs) x refl e

  indirect_takes : (cs behind : List ℕ) (x : ReferenceTree × List ℕ) → cs ≡ 64 ∷ behind → indirect_with r behind ≡ Some x → ReferenceIs d cs x
  unfolding indirect_with
  indirect_takes cs behind x at e =
      let p = bind_some (r.below behind) (λ p. attached_with r p.1 >>= λ x. Some (indirect p.0 x.0, x.1)) x e in
      let s = bind_some (attached_with r p.0.1) (λ x. Some (indirect p.0.0 x.0, x.1)) x p.2 in
      let operand = below_takes behind p.0 p.1 in
      let more = attached_takes p.0.1 s.0 s.1 in
      let kept = more.2 p.0.0 operand.2 in
      let parts : cs ≡ (64 ∷ (spell_primary p.0.0 ++ spell_attached s.0.0)) ++ s.0.1 = at ∙ ap (λ (y : List ℕ). 64 ∷ y) (joined behind (spell_primary p.0.0) p.0.1 (spell_attached s.0.0) s.0.1 (spell_attached s.0.0) operand.0 more.0 refl) in
      subst (ReferenceIs d cs) {x = (indirect p.0.0 s.0.0, s.0.1)} (some_is (indirect p.0.0 s.0.0, s.0.1) x s.2)
      (parts, (operand.1.0, operand.1.1, kept.0, more.1), kept.1)

  -- the text of a variable with an environment, from its parts
  extended_cells : (cs e t u n v b rest : List ℕ) → cs ≡ e ++ t → t ≡ 124 ∷ u → u ≡ n ++ v → v ≡ b ++ rest → 94 ∷ 124 ∷ cs ≡ (94 ∷ 124 ∷ (e ++ 124 ∷ (n ++ b))) ++ rest
  extended_cells cs e t u n v b rest p q s k =
      let whole : 94 ∷ 124 ∷ cs ≡ 94 ∷ 124 ∷ (e ++ 124 ∷ (n ++ (b ++ rest))) = rw (p, q, s, k) refl in
      let same : (94 ∷ 124 ∷ (e ++ 124 ∷ (n ++ b))) ++ rest ≡ 94 ∷ 124 ∷ (e ++ 124 ∷ (n ++ (b ++ rest))) = simp append_assoc in
      whole ∙ sym same

  extended_takes : (cs : List ℕ) (x : ReferenceTree × List ℕ) → extended_with r cs ≡ Some x → ReferenceIs d (94 ∷ 124 ∷ cs) x
  unfolding extended_with
  extended_takes cs x e =
      let v = bind_some (r.inner cs) (λ e. past 124 e.1 >>= λ rest. name_at rest >>= λ n. subscripts_with r n.1 >>= λ x. Some (extended e.0 n.0 x.0, x.1)) x e in
      let k = bind_some (past 124 v.0.1) (λ rest. name_at rest >>= λ n. subscripts_with r n.1 >>= λ x. Some (extended v.0.0 n.0 x.0, x.1)) x v.2 in
      let n = bind_some (name_at k.0) (λ n. subscripts_with r n.1 >>= λ x. Some (extended v.0.0 n.0 x.0, x.1)) x k.2 in
      let s = bind_some (subscripts_with r n.0.1) (λ x. Some (extended v.0.0 n.0.0 x.0, x.1)) x n.2 in
      let environment = inner_takes cs v.0 v.1 in
      let name = name_takes k.0 n.0 n.1 in
      let subscripts = subscripts_takes n.0.1 s.0 s.1 in
      let made : ReferenceTree × List ℕ = (extended v.0.0 n.0.0 s.0.0, s.0.1) in
      subst (ReferenceIs d (94 ∷ 124 ∷ cs)) {x = made} (some_is made x s.2)
      (extended_cells cs (spell_expr v.0.0) v.0.1 k.0 n.0.0 n.0.1 (spell_subscripts s.0.0) s.0.1 environment.0 (past_takes 124 v.0.1 k.0 k.1) name.0 subscripts.0, (environment.1.0, environment.1.1, name.1, subscripts.1), tt)

  owned_takes : (cs : List ℕ) (o : Option (List ℕ)) (x : ReferenceTree × List ℕ) → past 124 cs ≡ o → owned_by r cs o ≡ Some x → ReferenceIs d (94 ∷ cs) x
  owned_takes cs None x h e = named_takes global (ReferenceIs d (94 ∷ cs)) cs x e (λ n s rest p name well. (ap (λ (y : List ℕ). 94 ∷ y) p, (name, well), tt))
  owned_takes cs (Some inside) x h e =
      let t = extended_takes inside x e in
      (ap (λ (y : List ℕ). 94 ∷ y) (past_takes 124 cs inside h) ∙ t.0, t.1, t.2)

  global_takes : (cs : List ℕ) (o : Option (List ℕ)) (x : ReferenceTree × List ℕ) → past 40 cs ≡ o → global_by r cs o ≡ Some x → ReferenceIs d (94 ∷ cs) x
  global_takes cs None x h e = owned_takes cs (past 124 cs) x refl e
  global_takes cs (Some inside) x h e =
      let b = bind_some (subscripts_with r cs) (λ x. Some (naked x.0, x.1)) x e in
      let s = opened_takes cs inside b.0 (past_takes 40 cs inside h) b.1 in
      subst (ReferenceIs d (94 ∷ cs)) {x = (naked b.0.0, b.0.1)} (some_is (naked b.0.0, b.0.1) x b.2) (ap (λ (y : List ℕ). 94 ∷ y) s.0.0, (s.1, s.0.1), tt)

  local_takes : (cs : List ℕ) (o : Option (List ℕ)) (x : ReferenceTree × List ℕ) → past 64 cs ≡ o → local_by r cs o ≡ Some x → ReferenceIs d cs x
  local_takes cs None x h e = named_takes local (ReferenceIs d cs) cs x e (λ n s rest p name well. (p, (name, well), tt))
  local_takes cs (Some behind) x h e = indirect_takes cs behind x (past_takes 64 cs behind h) e

  reference_takes_by : (cs : List ℕ) (o : Option (List ℕ)) (x : ReferenceTree × List ℕ) → past 94 cs ≡ o → reference_by r cs o ≡ Some x → ReferenceIs d cs x
  reference_takes_by cs None x h e = local_takes cs (past 64 cs) x refl e
  reference_takes_by cs (Some behind) x h e =
      let t = global_takes behind (past 40 behind) x refl e in
      (past_takes 94 cs behind h ∙ t.0, t.1, t.2)

  pub reference_takes_free : TakesFree spell_reference (WellReference d) bare_reference (reference_with r)
  unfolding reference_with
  reference_takes_free cs x e = reference_takes_by cs (past 94 cs) x refl e

  pub reference_takes : Takes spell_reference (WellReference d) (reference_with r)
  reference_takes cs x e = let t = reference_takes_free cs x e in (t.0, t.1)

-- ---- what is spelled so is read

pub name_or_open : (c : ℕ) → goes_on c ≡ false → (is_name_rest c ≡ false) × (is_open c ≡ false)
name_or_open c h = (grind (arith, nat_tests), grind (arith, nat_tests))

subscripts_follow : (s : ExprsTree) (rest : List ℕ) → Stops goes_on rest → Stops is_name_rest (spell_subscripts s ++ rest)
subscripts_follow no_exprs rest f = Stops-weaker goes_on is_name_rest rest (λ c h. (name_or_open c h).0) f
subscripts_follow (exprs e es) rest f = refl

no_subscripts : (r : Readers) (rest : List ℕ) → Stops is_open rest → subscripts_with r rest ≡ Some (no_exprs, rest)
unfolding subscripts_with
no_subscripts r [] s = refl
no_subscripts r (c ∷ rest) s = rw s refl

subscripts_step : (r : Readers) (cs : List ℕ) (es : List ExprTree) (rest : List ℕ) → list_at (r.inner) cs ≡ Some (es, 41 ∷ rest) → subscripts_with r (40 ∷ cs) ≡ Some (exprs_of es, rest)
unfolding subscripts_with
subscripts_step r cs es rest h = rw h refl

-- a name begins as a name
pub named : (name : List ℕ) → IsName name → Begins is_name_start name
named [] w = absurd w
named (c ∷ cs) w = w.0

name_tests : (c : ℕ) → is_name_start c ≡ true → (eqb c 94 ≡ false) × (eqb c 40 ≡ false) × (eqb c 64 ≡ false) × (eqb c 124 ≡ false)
name_tests c h = (grind (arith, nat_tests), grind (arith, nat_tests), grind (arith, nat_tests), grind (arith, nat_tests))

-- no `^`, no bracket, no `@` and no `|` stand where a name begins
pub name_in_front : (cs : List ℕ) → Begins is_name_start cs → (past 94 cs ≡ None) × (past 40 cs ≡ None) × (past 64 cs ≡ None) × (past 124 cs ≡ None)
name_in_front cs b = (
  not_past 94 cs (Begins-stops is_name_start (λ c. eqb c 94) cs (λ c h. (name_tests c h).0) b),
  not_past 40 cs (Begins-stops is_name_start (λ c. eqb c 40) cs (λ c h. (name_tests c h).1) b),
  not_past 64 cs (Begins-stops is_name_start (λ c. eqb c 64) cs (λ c h. (name_tests c h).2) b),
  not_past 124 cs (Begins-stops is_name_start (λ c. eqb c 124) cs (λ c h. (name_tests c h).3) b),
)

local_step : (r : Readers) (cs n t : List ℕ) (s : ExprsTree) (rest : List ℕ) → past 94 cs ≡ None → past 64 cs ≡ None → name_at cs ≡ Some (n, t) → subscripts_with r t ≡ Some (s, rest) → reference_with r cs ≡ Some (local n s, rest)
unfolding reference_with
local_step r cs n t s rest p q h k = rw (p, q, h, k) refl

global_step : (r : Readers) (cs n t : List ℕ) (s : ExprsTree) (rest : List ℕ) → past 40 cs ≡ None → past 124 cs ≡ None → name_at cs ≡ Some (n, t) → subscripts_with r t ≡ Some (s, rest) → reference_with r (94 ∷ cs) ≡ Some (global n s, rest)
unfolding reference_with
global_step r cs n t s rest p q h k = rw (p, q, h, k) refl

extended_step : (r : Readers) (cs ds n t : List ℕ) (e : ExprTree) (s : ExprsTree) (rest : List ℕ) → r.inner cs ≡ Some (e, 124 ∷ ds) → name_at ds ≡ Some (n, t) → subscripts_with r t ≡ Some (s, rest)
    → reference_with r (94 ∷ 124 ∷ cs) ≡ Some (extended e n s, rest)
unfolding reference_with extended_with
extended_step r cs ds n t e s rest h k l = rw (h, k, l) refl

naked_step : (r : Readers) (cs : List ℕ) (s : ExprsTree) (rest : List ℕ) → subscripts_with r (40 ∷ cs) ≡ Some (s, rest) → reference_with r (94 ∷ 40 ∷ cs) ≡ Some (naked s, rest)
unfolding reference_with
naked_step r cs s rest h = rw h refl

indirect_step : (r : Readers) (cs t : List ℕ) (p : PrimaryTree) (s : ExprsTree) (rest : List ℕ) → r.below cs ≡ Some (p, t) → attached_with r t ≡ Some (s, rest) → reference_with r (64 ∷ cs) ≡ Some (indirect p s, rest)
unfolding reference_with indirect_with
indirect_step r cs t p s rest h k = rw (h, k) refl

none_attached : (r : Readers) (rest : List ℕ) → attached_at rest ≡ None → attached_with r rest ≡ Some (no_exprs, rest)
unfolding attached_with
none_attached r rest h = rw h refl

some_attached : (r : Readers) (cs : List ℕ) (s : ExprsTree) (rest : List ℕ) → subscripts_with r (40 ∷ cs) ≡ Some (s, rest) → attached_with r (64 ∷ 40 ∷ cs) ≡ Some (s, rest)
unfolding attached_with
some_attached r cs s rest h = h

-- if subscripts or none come after an operand, no more are attached to that
operand_follows : (p : PrimaryTree) (s : ExprsTree) (rest : List ℕ) → IsAttached p s → Stops goes_on rest → Greedy (bare_reference (indirect p s)) rest
    → Stops goes_on (spell_attached s ++ rest) × Greedy (bare_primary p) (spell_attached s ++ rest)
operand_follows p no_exprs rest a f g = (f, greedy_none (bare_primary p))
  where
    greedy_none : (o : Option PrimaryTree) → Greedy o rest
    greedy_none None = tt
    greedy_none (Some q) = g
operand_follows p (exprs e es) rest a f g = (refl, rw a tt)

module _ (d : ℕ) (r : Readers) (inner_again : Again spell_expr (WellInner d) Ends (r.inner)) (below_again : AgainFree spell_primary (WellBelow d) bare_primary (r.below)) where
  subscripts_again : Again spell_subscripts (WellSubscripts d) (Stops goes_on) (subscripts_with r)
  subscripts_again no_exprs rest w f = no_subscripts r rest (Stops-weaker goes_on is_open rest (λ c h. (name_or_open c h).1) f)
  subscripts_again (exprs e more) rest w f =
      let es = exprs_list more in
      let same : spell_subscripts (exprs e more) ≡ 40 ∷ (spell_list spell_expr (e ∷ es) ++ 41 ∷ []) = ap (λ (y : ExprsTree). spell_subscripts (exprs e y)) (sym (exprs_back more)) ∙ bracketed e es in
      let parts : spell_subscripts (exprs e more) ++ rest ≡ 40 ∷ (spell_list spell_expr (e ∷ es) ++ 41 ∷ rest) =
      ap (λ (y : List ℕ). y ++ rest) same ∙ ap (λ (y : List ℕ). 40 ∷ y) (append_assoc (spell_list spell_expr (e ∷ es)) (41 ∷ []) rest) in
      let l = list_again spell_expr (WellInner d) (r.inner) Ends (λ more. (refl, refl)) inner_again (e ∷ es) (41 ∷ rest) ((w.0, w.1), exprs_inner d more w.0 w.2) ((refl, refl), refl) in
      ap (subscripts_with r) parts ∙ subscripts_step r (spell_list spell_expr (e ∷ es) ++ 41 ∷ rest) (e ∷ es) rest l
      ∙ ap (λ (y : ExprsTree). Some (exprs e y, rest)) (exprs_back more)

  -- after a name
  name_and_subscripts : (name : List ℕ) (s : ExprsTree) (rest : List ℕ) → IsName name → Stops goes_on rest → name_at (name ++ (spell_subscripts s ++ rest)) ≡ Some (name, spell_subscripts s ++ rest)
  name_and_subscripts name s rest w f = name_again name (spell_subscripts s ++ rest) w (subscripts_follow s rest f)

  attached_again : (p : PrimaryTree) (s : ExprsTree) (rest : List ℕ) → WellSubscripts d s → Stops goes_on rest → Greedy (bare_reference (indirect p s)) rest → attached_with r (spell_attached s ++ rest) ≡ Some (s, rest)
  attached_again p no_exprs rest w f g = none_attached r rest g
  attached_again p (exprs e more) rest w f g =
      some_attached r ((spell_expr e ++ (spell_more_exprs more ++ 41 ∷ [])) ++ rest) (exprs e more) rest (subscripts_again (exprs e more) rest w f)

  pub reference_again_free : AgainFree spell_reference (WellReference d) bare_reference (reference_with r)
  reference_again_free (local name s) rest w f g =
      let t : List ℕ = spell_subscripts s ++ rest in
      let front = name_in_front (name ++ t) (Begins-append is_name_start name t (named name w.0)) in
      ap (reference_with r) (append_assoc name (spell_subscripts s) rest)
      ∙ local_step r (name ++ t) name t s rest front.0 front.2 (name_and_subscripts name s rest w.0 f) (subscripts_again s rest w.1 f)
  reference_again_free (global name s) rest w f g =
      let t : List ℕ = spell_subscripts s ++ rest in
      let front = name_in_front (name ++ t) (Begins-append is_name_start name t (named name w.0)) in
      ap (λ (y : List ℕ). reference_with r (94 ∷ y)) (append_assoc name (spell_subscripts s) rest)
      ∙ global_step r (name ++ t) name t s rest front.1 front.3 (name_and_subscripts name s rest w.0 f) (subscripts_again s rest w.1 f)
  reference_again_free (naked no_exprs) rest w f g = absurd w.0
  reference_again_free (naked (exprs e more)) rest w f g = naked_step r ((spell_expr e ++ (spell_more_exprs more ++ 41 ∷ [])) ++ rest) (exprs e more) rest (subscripts_again (exprs e more) rest w.1 f)
  reference_again_free (indirect p s) rest w f g =
      let t : List ℕ = spell_attached s ++ rest in
      let follows = operand_follows p s rest w.2 f g in
      ap (λ (y : List ℕ). reference_with r (64 ∷ y)) (append_assoc (spell_primary p) (spell_attached s) rest)
      ∙ indirect_step r (spell_primary p ++ t) t p s rest (below_again p t (w.0, w.1) follows.0 follows.1) (attached_again p s rest w.3 f g)
  reference_again_free (extended e name s) rest w f g =
      let t : List ℕ = spell_subscripts s ++ rest in
      let u : List ℕ = name ++ t in
      let parts : (spell_expr e ++ 124 ∷ (name ++ spell_subscripts s)) ++ rest ≡ spell_expr e ++ 124 ∷ u = simp append_assoc in
      ap (λ (y : List ℕ). reference_with r (94 ∷ 124 ∷ y)) parts
      ∙ extended_step r (spell_expr e ++ 124 ∷ u) u name t e s rest (inner_again e (124 ∷ u) (w.0, w.1) (refl, refl)) (name_and_subscripts name s rest w.2 f) (subscripts_again s rest w.3 f)

  pub reference_again : Again spell_reference (WellReference d) OperandEnds (reference_with r)
  reference_again v rest w f = reference_again_free v rest w (operand_ends rest f) (greedy_ends (bare_reference v) rest f)

-- a character that a variable begins with
abbrev pub begins_reference : ℕ → Bool
begins_reference c = is_name_start c || eqb c 94 || eqb c 64

pub name_begins_reference : (c : ℕ) → is_name_start c ≡ true → begins_reference c ≡ true
name_begins_reference c h = rw h refl

pub reference_begins : (d : ℕ) (v : ReferenceTree) → WellReference d v → Begins begins_reference (spell_reference v)
reference_begins d (local name s) w = Begins-weaker is_name_start begins_reference (name ++ spell_subscripts s) name_begins_reference (Begins-append is_name_start name (spell_subscripts s) (named name w.0))
reference_begins d v w = refl

-- ---- an `@` and its operand alone

pub bare_spelled : (p : PrimaryTree) → spell_reference (indirect p no_exprs) ≡ 64 ∷ spell_primary p
bare_spelled p = ap (λ (y : List ℕ). 64 ∷ y) (append-nil (spell_primary p))

pub bare_well : (d : ℕ) (p : PrimaryTree) → WellBelow d p → WellReference d (indirect p no_exprs)
bare_well d p w = (w.0, w.1, tt, tt)

pub bare_reference_is : (d : ℕ) (v : ReferenceTree) (p : PrimaryTree) → bare_reference v ≡ Some p → WellReference d v → (spell_reference v ≡ 64 ∷ spell_primary p) × WellBelow d p
bare_reference_is d (indirect q no_exprs) p e w =
    let same : q ≡ p = some_is q p e in
    (bare_spelled q ∙ ap (λ (x : PrimaryTree). 64 ∷ spell_primary x) same, subst (WellBelow d) same (w.0, w.1))
bare_reference_is d v p e w = absurd cc
