-- SPDX-License-Identifier: Apache-2.0
-- What the bytes of a key stand for.
use Rattle.std.specs.Prelude.{◌≡◌, ◌↔◌, ℕ, Bool, List, [], ◌∷◌}
use Rattle.std.proofs.Common.{sym, ◌∙◌}
use Rattle.std.specs.Coded.{Coded-set, coded_ℕ, coded_bool, coded_list, ×_prop, le_prop, Unit-prop}
use mathlib.Core.HLevel.{Σ_prop_path}
use Rattle.mspec.specs.Act.{Text, Node}
use Rattle.mspec.specs.Names.{IsName, AllAre}
use Rattle.mspec.specs.KeyBytes.{key_bytes, IsStored}
use Rattle.mspec.specs.KeyLaws.{IsBetween, NoneEmpty}
use Rattle.mspec.specs.Number.{significant_digits}
use Rattle.mspec.proofs.KeyRanges.{keys_are_injective}

-- the bytes are the key of this node, which is one of a store
abbrev pub IsKeyOf : Node → List ℕ → Type 0
IsKeyOf n bytes = IsStored n × (key_bytes significant_digits n ≡ bytes)

-- the same when numbers keep `kept` digits
abbrev pub IsKeyBy : ℕ → Node → List ℕ → Type 0
IsKeyBy kept n bytes = IsStored n × (key_bytes kept n ≡ bytes)

-- how many digits the numbers of a store of version 1 kept
abbrev pub old_digits : ℕ
old_digits = 15

-- the bytes are the key of a node of a store
abbrev pub IsKey : List ℕ → Type 0
IsKey bytes = (n : Node) × IsKeyOf n bytes

-- the keys from `low` on and before `high` are those of the nodes of which this holds
abbrev pub BoundsKeysOf : (Node → Type 0) → List ℕ → List ℕ → Type 0
BoundsKeysOf P low high = (n : Node) → IsStored n → IsBetween low high (key_bytes significant_digits n) ↔ P n

-- ---- bytes are the key of at most one node

pub none_empty : (n : Node) → IsStored n → NoneEmpty n.subscripts
none_empty n stored = λ k d inside. (stored.subscripts.each k d inside).some

pub one_node : (n m : Node) (bytes : List ℕ) → IsStored n → IsStored m → key_bytes significant_digits n ≡ bytes → key_bytes significant_digits m ≡ bytes → n ≡ m
one_node n m bytes stored_n stored_m e f = keys_are_injective significant_digits n m (none_empty n stored_n) (none_empty m stored_m) (e ∙ sym f)

bool_set : IsSet Bool
bool_set = Coded-set coded_bool

AllAre-prop : (p : ℕ → Bool) (cs : List ℕ) → IsProp (AllAre p cs)
AllAre-prop p [] = Unit-prop
AllAre-prop p (c ∷ cs) = ×_prop (Coded-set coded_bool _ _) (AllAre-prop p cs)

IsName-prop : (name : Text) → IsProp (IsName name)
IsName-prop [] = hlevel
IsName-prop (c ∷ cs) = hlevel (bool_set, AllAre-prop, le_prop)

IsStored-prop : (n : Node) → IsProp (IsStored n)
IsStored-prop n = hlevel (bool_set, IsName-prop, le_prop)

pub IsKey-prop : (bytes : List ℕ) → IsProp (IsKey bytes)
IsKey-prop bytes a b =
    Σ_prop_path (λ n. ×_prop (IsStored-prop n) (Coded-set (coded_list coded_ℕ) (key_bytes significant_digits n) bytes))
    (one_node a.0 b.0 bytes a.1.0 b.1.0 a.1.1 b.1.1)
