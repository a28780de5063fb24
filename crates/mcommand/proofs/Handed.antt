-- SPDX-License-Identifier: Apache-2.0
-- Names that operands give.
use Rattle.mcommand.proofs.CommandWords.{Doubts-same, ◌≡◌, [], ◌∷◌, List, length, get_or, map, arith, ap, ◌∙◌, Bool, true, false, Option, Some, None, Result}
use Rattle.mcommand.proofs.CommandWords.{Err, refl, sym, Text, Act, ◌>>◌, Inside, Ghosts, Code, depth_of, Parts, Does}
use Rattle.std.specs.Prelude.{IsTrue, ◌↔◌}
use Rattle.std.proofs.lemmas.Bool.{false≢true}
use Rattle.mspec.specs.Names.{IsName}
use Rattle.mgrammar.specs.IndirectTexts.{name_of}
use Rattle.mgrammar.proofs.ReadingIndirectTexts.{reads_its_name}
use Rattle.mspec.specs.Scopes.{Binding}
use Rattle.mgrammar.specs.Grammar.{ActualTree, missing_actual, value_actual, name_actual, indirect_actual, ActualsTree, no_actuals, actuals, actuals_of}
use Rattle.mmeaning.specs.Parameters.{all_handed, handed_over}
use Rattle.mmeaning.specs.Expression.{is_indirection_free, an_indirection_free}
use Rattle.moperator.specs.declared.code.Code.TheVariants.{Zdepth}
use Rattle.mspec.specs.Code as spec
use Rattle.mmeaning.proofs.Indirections.{did_fail}
use Rattle.mcommand.proofs.Calls.{keeps_itself}

-- ---- the check of the depth

module _ {S A Y : Type 0} {g : Ghosts S} {j : Y → A} where
  pub deep_refused : {parts : Parts S} (q : Inside → Act A) → is_indirection_free (depth_of parts.eval.depth) ≡ false
      → Does g (λ i. an_indirection_free i.depth >> q i) j parts (Err Zdepth) parts
  deep_refused {parts = parts} q full = record {
    at = λ sure. rw full (did_fail spec.Zdepth j Zdepth refl);
    doubt = Doubts-same _;
    keeps = keeps_itself _;
    depth = refl;
  }

  pub free_goes_on : {old new : Parts S} {r : Result Y Code} (q : Inside → Act A) → is_indirection_free (depth_of old.eval.depth) ≡ true → Does g q j old r new
      → Does g (λ i. an_indirection_free i.depth >> q i) j old r new
  free_goes_on q free d = record { at = λ sure. rw free (d.at sure); doubt = d.doubt; keeps = d.keeps; depth = d.depth }

-- ---- names

pub name_read : (x name : Text) → name ≡ x → IsName x → name_of x ≡ Some name
name_read x name same is = (reads_its_name x name).1 (same, rw same is)

pub name_none : (x : Text) → (IsName x → ⊥) → name_of x ≡ None
name_none x none = go (name_of x) refl
  where
    go : (o : Option Text) → name_of x ≡ o → o ≡ None
    go None e = refl
    go (Some name) e = let is = (reads_its_name x name).0 e in absurd (none (rw (sym is.0) is.1))

-- ---- actuals

-- of any but one that is missing, alone in its brackets, each hands something over
pub each_handed : (i : Inside) (xs : ActualsTree) → (xs ≡ actuals missing_actual no_actuals → ⊥)
    → ◌≡◌ {A = Act (List Binding)} (handed_over i xs) (all_handed i [] xs)
each_handed i no_actuals other = refl
each_handed i (actuals missing_actual no_actuals) other = absurd (other refl)
each_handed i (actuals missing_actual (actuals b rest)) other = refl
each_handed i (actuals (value_actual e) rest) other = refl
each_handed i (actuals (name_actual name) rest) other = refl
each_handed i (actuals (indirect_actual p) rest) other = refl

abbrev pub is_gap : ActualTree → Bool
is_gap missing_actual = true
is_gap t = false

pub not_missing : (t : ActualTree) → is_gap t ≡ false → IsTrue false ↔ (t ≡ missing_actual)
not_missing t other = (λ h. absurd (false≢true h), λ e. absurd (false≢true (sym other ∙ ap is_gap e)))

-- the first of a list
abbrev pub first_of : ActualsTree → ActualTree
first_of no_actuals = missing_actual
first_of (actuals a rest) = a

-- whether it has exactly one
abbrev pub is_alone : ActualsTree → Bool
is_alone no_actuals = false
is_alone (actuals a no_actuals) = true
is_alone (actuals a (actuals b rest)) = false

module _ {Y : Type 0} (tree : Y → ActualTree) where
  alone_is : (listed : List Y) → is_alone (actuals_of (map tree listed)) ≡ true → length listed ≡ 1
  alone_is [] h = absurd (false≢true h)
  alone_is (a ∷ []) h = refl
  alone_is (a ∷ b ∷ more) h = absurd (false≢true h)

  pub bare_one : (listed : List Y) (y : Y) (b : Bool) → length listed ≡ 1 → y ≡ get_or listed 0 y → IsTrue b ↔ (tree y ≡ missing_actual)
      → IsTrue b ↔ (actuals_of (map tree listed) ≡ actuals missing_actual no_actuals)
  bare_one [] y b one is when = absurd (omega (arith, one))
  bare_one (a ∷ []) y b one is when = (λ h. ap (λ t. actuals t no_actuals) (ap tree (sym is) ∙ when.0 h), λ e. when.1 (ap tree is ∙ ap first_of e))
  bare_one (a ∷ c ∷ more) y b one is when = absurd (omega (arith, one))

  pub not_bare : (listed : List Y) → (length listed ≡ 1 → ⊥) → IsTrue false ↔ (actuals_of (map tree listed) ≡ actuals missing_actual no_actuals)
  not_bare listed other = (λ h. absurd (false≢true h), λ e. absurd (other (alone_is listed (ap is_alone e))))
