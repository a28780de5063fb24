-- SPDX-License-Identifier: Apache-2.0
-- Arguments of functions at their places.
use Rattle.moperator.proofs.OperatorWords.{◌≡◌, ℕ, ◌<◌, ◌≤◌, List, [], ◌∷◌, ◌++◌, length, drop, get_or, Some, None, Result, Ok, Err, refl, sym, ◌∙◌, ap, subst}
use Rattle.moperator.proofs.OperatorWords.{slice_get, Text, give, as_number, as_whole, as_whole_or_none, text_at, whole_at, wholes, Yields, yields_then}
use Rattle.moperator.proofs.OperatorWords.{yields_failed, yields_gives, fault_of, Code}
use Rattle.std.proofs.Common.{◌+◌, Option}
use Rattle.std.specs.Prelude.{ℤ}
use Rattle.std.proofs.Math.ListN.{drop_of_length-le}
use Rattle.std.proofs.lemmas.List.{get_or_default, get_or_past}
use Rattle.std.proofs.lemmas.Option.{slice_get_read, slice_get_past}
use Rattle.mspec.proofs.ListPlaces.{next_item}

-- the argument at a place, which was read there
pub argument_is : (args : List Text) (k : ℕ) (v : Text) → k < length args → v ≡ get_or args k v → slice_get args k ≡ Some v
argument_is args k v within is = slice_get_read args (length args) k v refl within is

-- ---- one as a number, or as a whole number

-- the number of an argument, and of one that is left out
pub argument_number : {X : Type 0} (view : X → ℤ) (args : List Text) (k : ℕ) (v : Text) (r : Result X Code) → k < length args → v ≡ get_or args k v → Yields fault_of (as_number v) view r → Yields fault_of (as_number (text_at k args)) view r
argument_number view args k v r within is d = subst (λ x. Yields fault_of (as_number x) view r) (is ∙ get_or_default args k v [] within) d

pub no_number_there : {X : Type 0} (view : X → ℤ) (args : List Text) (k : ℕ) (r : Result X Code) → length args ≤ k → Yields fault_of (as_number []) view r → Yields fault_of (as_number (text_at k args)) view r
no_number_there view args k r past d = subst (λ x. Yields fault_of (as_number x) view r) (sym (get_or_past args k [] past)) d

pub left_out : (args : List Text) (k : ℕ) → length args ≤ k → Yields fault_of (whole_at k args) (λ (n : Option ℤ). n) (Ok None)
left_out args k past = subst (λ x. Yields fault_of (as_whole_or_none x) (λ (n : Option ℤ). n) (Ok None)) (sym (slice_get_past args k past)) (yields_gives None (λ (n : Option ℤ). n) None refl)

pub given : (args : List Text) (k : ℕ) (v : Text) (m n : ℤ) → k < length args → v ≡ get_or args k v → m ≡ n → Yields fault_of (as_whole v) (λ (n : ℤ). n) (Ok n)
    → Yields fault_of (whole_at k args) (λ (n : Option ℤ). n) (Ok (Some m))
given args k v m n within is same d =
    subst (λ x. Yields fault_of (as_whole_or_none x) (λ (n : Option ℤ). n) (Ok (Some m))) (sym (argument_is args k v within is))
    (yields_then (λ n. give (Some n)) d (yields_gives (Some n) (λ (n : Option ℤ). n) (Some m) (ap Some same)))

pub refused : (args : List Text) (k : ℕ) (v : Text) (e : Code) → k < length args → v ≡ get_or args k v → Yields fault_of (as_whole v) (λ (n : ℤ). n) (Err e)
    → Yields fault_of (whole_at k args) (λ (n : Option ℤ). n) (Err e)
refused args k v e within is d =
    subst (λ x. Yields fault_of (as_whole_or_none x) (λ (n : Option ℤ). n) (Err e)) (sym (argument_is args k v within is)) (yields_failed (λ n. give (Some n)) d)

-- ---- all as whole numbers

pub next_whole : {X : Type 0} (view : X → List ℤ) (args : List Text) (i : ℕ) (v : Text) (ns : List ℤ) (n : ℤ) (r : Result X Code) → i < length args → v ≡ get_or args i v → Yields fault_of (as_whole v) (λ (n : ℤ). n) (Ok n)
    → Yields fault_of (wholes (ns ++ n ∷ []) (drop (i + 1) args)) view r → Yields fault_of (wholes ns (drop i args)) view r
next_whole view args i v ns n r within is d k =
    subst (λ rest. Yields fault_of (wholes ns rest) view r) (sym (next_item args i v within is))
    (yields_then (λ n. wholes (ns ++ n ∷ []) (drop (i + 1) args)) d k)

pub whole_refused : {X : Type 0} (view : X → List ℤ) (args : List Text) (i : ℕ) (v : Text) (ns : List ℤ) (e : Code) → i < length args → v ≡ get_or args i v → Yields fault_of (as_whole v) (λ (n : ℤ). n) (Err e)
    → Yields fault_of (wholes ns (drop i args)) view (Err e)
whole_refused view args i v ns e within is d =
    subst (λ rest. Yields fault_of (wholes ns rest) view (Err e)) (sym (next_item args i v within is))
    (yields_failed (λ n. wholes (ns ++ n ∷ []) (drop (i + 1) args)) d)

pub wholes_end : {X : Type 0} (view : X → List ℤ) (args : List Text) (i : ℕ) (ns : X) → length args ≤ i → Yields fault_of (wholes (view ns) (drop i args)) view (Ok ns)
wholes_end view args i ns past =
    subst (λ rest. Yields fault_of (wholes (view ns) rest) view (Ok ns)) (sym (drop_of_length-le args past)) (yields_gives (view ns) view ns refl)
