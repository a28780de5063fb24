-- SPDX-License-Identifier: Apache-2.0
-- What the bytes of a list of subscripts stand for.
use Rattle.std.specs.Prelude.{◌≡◌, ℕ, List, [], ◌∷◌, ◌++◌}
use Rattle.std.proofs.Common.{sym, ◌∙◌}
use Rattle.std.specs.Coded.{Coded-set, coded_ℕ, coded_list, ×_prop, le_prop}
use mathlib.Core.HLevel.{Σ_prop_path}
use Rattle.mspec.specs.Node.{Text}
use Rattle.mspec.specs.KeyBytes.{subscripts_bytes}
use Rattle.mspec.specs.KeyLaws.{NoneEmpty}
use Rattle.mspec.specs.Number.{significant_digits}
use Rattle.mspec.proofs.KeyOrders.{subscripts_order}
use Rattle.mspec.proofs.KeyRanges.{same_bytes}
use Rattle.mspec.proofs.NodeOrders.{subscripts_cmp_exact}

-- the bytes are those of these texts, none of which is empty
abbrev pub IsSubsKeyOf : List Text → List ℕ → Type 0
IsSubsKeyOf xs bytes = NoneEmpty xs × (subscripts_bytes significant_digits xs ≡ bytes)

-- the bytes are those of a list of such texts
abbrev pub IsSubsKey : List ℕ → Type 0
IsSubsKey bytes = (xs : List Text) × IsSubsKeyOf xs bytes

-- a text that comes after all subscripts of a store
abbrev pub beyond : Text
beyond = 254 ∷ []

-- a list that comes after all that begin with this one and are subscripts of a store
abbrev pub behind_below : List Text → List Text
behind_below xs = xs ++ beyond ∷ []

-- ---- bytes are those of at most one list

pub one_list : (xs ys : List Text) (bytes : List ℕ) → IsSubsKeyOf xs bytes → IsSubsKeyOf ys bytes → xs ≡ ys
one_list xs ys bytes a b =
    subscripts_cmp_exact significant_digits xs ys (sym (subscripts_order significant_digits xs ys a.0 b.0) ∙ same_bytes _ _ (a.1 ∙ sym b.1))

NoneEmpty-prop : (xs : List Text) → IsProp (NoneEmpty xs)
NoneEmpty-prop xs = hlevel (le_prop)

pub IsSubsKey-prop : (bytes : List ℕ) → IsProp (IsSubsKey bytes)
IsSubsKey-prop bytes a b =
    Σ_prop_path (λ xs. ×_prop (NoneEmpty-prop xs) (Coded-set (coded_list coded_ℕ) (subscripts_bytes significant_digits xs) bytes))
    (one_list a.0 b.0 bytes a.1 b.1)
