-- SPDX-License-Identifier: Apache-2.0
-- The signs in front of an operand, of which the last one applies first.
use Rattle.moperator.proofs.OperatorWords.{◌≡◌, ℕ, zero, suc, ◌-◌, ◌<◌, ◌≤◌, length, take, map, get_or, arith, List, [], ◌∷◌, ◌++◌, Result, Ok, Err, refl, sym}
use Rattle.moperator.proofs.OperatorWords.{ap, ◌∙◌, subst, take_more, map_push, Text, Outcome, Gives, Fails, Act, on_gives, ◌>>=◌, give, unary, unaries, assoc}
use Rattle.moperator.proofs.OperatorWords.{sign_tree, Yields, fault_of, Code, yields_then, yields_failed, yields_gives}
use Rattle.std.proofs.Common.{◌+◌}
use Rattle.mspec.specs.Plan.{Plan, Done, Ask, then_plan}
use Rattle.mgrammar.specs.Grammar.{SignTree}
use Rattle.mtree.specs.declared.tree.Sign.{Sign}

-- to give what an act gives changes nothing
given_plan : {A : Type 0} (p : Plan (Outcome A)) → then_plan p (on_gives give) ≡ p
given_plan (Done (Gives a s)) = refl
given_plan (Done (Fails c s)) = refl
given_plan (Ask op k) = λ i. Ask op (λ r. given_plan (k r) i)

given : {A : Type 0} (p : Act A) → ◌≡◌ {A = Act A} (p >>= give) p
given p = λ i s. given_plan (p s) i

-- the last of some signs applies first, and the others to what it gives
last_first : (ss : List SignTree) (s : SignTree) (x : Text) → ◌≡◌ {A = Act Text} (unaries (ss ++ s ∷ []) x) (unary s x >>= unaries ss)
last_first [] s x = sym (given (unary s x))
last_first (t ∷ ss) s x = ap (λ (p : Act Text). p >>= unary t) (last_first ss s x) ∙ assoc (unary s x) (unaries ss) (unary t)

-- this many signs end with the one before that place
last_sign : (signs : List Sign) (left : ℕ) (d : Sign) → 0 < left → left ≤ length signs → map sign_tree (take left signs) ≡ map sign_tree (take (left - 1) signs) ++ sign_tree (get_or signs (left - 1) d) ∷ []
last_sign signs left d some within =
    let one : left ≡ left - 1 + 1 = omega arith in
    ap (λ (k : ℕ). map sign_tree (take k signs)) one
    ∙ ap (map sign_tree) (take_more signs (left - 1) d (omega arith))
    ∙ map_push sign_tree (take (left - 1) signs) (get_or signs (left - 1) d)

-- once the last sign has applied, the others are left
sign_applied : (ss : List SignTree) (s : SignTree) (x : Text) (y : Text) (r : Result Text Code) → Yields fault_of (unary s x) (λ (v : Text). v) (Ok y) → Yields fault_of (unaries ss y) (λ (v : Text). v) r → Yields fault_of (unaries (ss ++ s ∷ []) x) (λ (v : Text). v) r
sign_applied ss s x y r d k = subst (λ (p : Act Text). Yields fault_of p (λ (v : Text). v) r) (sym (last_first ss s x)) (yields_then (unaries ss) d k)

-- the last of this many signs, if it goes on
pub next_sign : (signs : List Sign) (left : ℕ) (d : Sign) (x : Text) (y : Text) (r : Result Text Code) → 0 < left → left ≤ length signs → Yields fault_of (unary (sign_tree (get_or signs (left - 1) d)) x) (λ (v : Text). v) (Ok y)
    → Yields fault_of (unaries (map sign_tree (take (left - 1) signs)) y) (λ (v : Text). v) r → Yields fault_of (unaries (map sign_tree (take left signs)) x) (λ (v : Text). v) r
next_sign signs left d x y r some within here k =
    subst (λ (ss : List SignTree). Yields fault_of (unaries ss x) (λ (v : Text). v) r) (sym (last_sign signs left d some within))
    (sign_applied (map sign_tree (take (left - 1) signs)) (sign_tree (get_or signs (left - 1) d)) x y r here k)

-- and if it fails
pub sign_failed : (signs : List Sign) (left : ℕ) (d : Sign) (x : Text) (e : Code) → 0 < left → left ≤ length signs → Yields fault_of (unary (sign_tree (get_or signs (left - 1) d)) x) (λ (v : Text). v) (Err e)
    → Yields fault_of (unaries (map sign_tree (take left signs)) x) (λ (v : Text). v) (Err e)
sign_failed signs left d x e some within here =
    subst (λ (ss : List SignTree). Yields fault_of (unaries ss x) (λ (v : Text). v) (Err e)) (sym (last_sign signs left d some within))
    (subst (λ (p : Act Text). Yields fault_of p (λ (v : Text). v) (Err e)) (sym (last_first (map sign_tree (take (left - 1) signs)) (sign_tree (get_or signs (left - 1) d)) x)) (yields_failed (unaries (map sign_tree (take (left - 1) signs))) here))

-- if no sign is left, the value stands
pub no_sign_left : (signs : List Sign) (left : ℕ) (x : Text) → left ≤ 0 → Yields fault_of (unaries (map sign_tree (take left signs)) x) (λ (v : Text). v) (Ok x)
no_sign_left signs zero x none = yields_gives x (λ (v : Text). v) x refl
no_sign_left signs (suc left) x none = absurd (omega arith)
