-- SPDX-License-Identifier: Apache-2.0
-- What WRITE does with the character of a code, if there is one.
use Rattle.mcommand.proofs.CommandWords.{◌≡◌, ℕ, [], ◌∷◌, Option, Some, None, Result, Ok, Err, refl, sym, subst, ◌>>=◌, write, Ghosts, Parts, Code, Does}
use Rattle.std.proofs.Common.{List, ◌++◌, ◌-◌, ◌∙◌, ap, length, arith}
use Rattle.std.proofs.lemmas.List.{length-append}
use Rattle.std.specs.Vec.{vec_len}
use Rattle.std.specs.declared.vec.Vec.{Vec}
use Rattle.mspec.specs.Act.{give_some}
use Rattle.mspec.specs.Code as spec
use Rattle.moperator.specs.declared.code.Code.TheVariants as code
use Rattle.mcommand.proofs.Calls.{does_then, does_yielded, does_gives}

pub no_character : {S X : Type 0} {g : Ghosts S} {f : X → Unit {0}} {parts : Parts S} (o : Option ℕ) → o ≡ None
    → Does {X = X} g (λ i. give_some spec.Zchar o >>= (λ x. write (x ∷ []))) f parts (Err code.Zchar) parts
no_character None is = does_yielded (record { ends = λ s. refl })
no_character (Some x) is = absurd cc

pub a_character : {S : Type 0} {g : Ghosts S} {old new : Parts S} {r : Result (Unit {0}) Code} (o : Option ℕ) (x : ℕ) → o ≡ Some x
    → Does g (λ i. write (x ∷ [])) (λ u. u) old r new → Does g (λ i. give_some spec.Zchar o >>= (λ y. write (y ∷ []))) (λ u. u) old r new
a_character {g = g} {old = old} {new = new} {r = r} o x is d =
    subst (λ (o : Option ℕ). Does g (λ i. give_some spec.Zchar o >>= (λ y. write (y ∷ []))) (λ u. u) old r new) (sym is)
    (does_then (λ i y. write (y ∷ [])) (does_gives x (λ (y : ℕ). y) x refl) d)

-- how many characters a text has that was appended
pub longer_by : {Z : Type 0} (old new : Vec ℕ Z) (x : List ℕ) (n m : ℕ) → n ≡ vec_len old → m ≡ vec_len new → new.items ≡ old.items ++ x → m - n ≡ length x
longer_by old new x n m is_old is_new e =
    let more = ap length e ∙ length-append old.items x in
    let before = is_old ∙ old.ok.0 in
    let behind = is_new ∙ new.ok.0 in
    omega (arith, before, behind, more)
