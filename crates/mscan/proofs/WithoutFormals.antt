-- SPDX-License-Identifier: Apache-2.0
-- A language without formal lists is as the profile: no line has one.
use Rattle.std.proofs.Common.{◌≡◌, ℕ, Bool, false, List, Option, Some, None, is_some, option_map, refl, ap, ◌∙◌}
use Rattle.mgrammar.specs.ReadingWords.{past, ◌>>=◌}
use Rattle.mgrammar.specs.RoutineLine.{has_formals, label_at, formals_at, formals_behind, formals_by, formals_of, listed_by}
use Rattle.mgrammar.proofs.ReadingRoutines.{profile_has_no_list}

pub no_formals : (language : ℕ) (cs : List ℕ) → has_formals language ≡ false → formals_of language cs ≡ None
no_formals language cs h = ap (λ (lists : Bool). (formals_behind (label_at lists cs)).0) h ∙ profile_has_no_list cs

-- a line without a label has none
pub unlabelled : (o : Option (List ℕ)) (cs : List ℕ) → o ≡ None → (formals_at o cs).0 ≡ None
unfolding formals_at
unlabelled o cs none = ap (λ (l : Option (List ℕ)). (formals_at l cs).0) none

-- nor one without a bracket
pub unbracketed : (o : Option (List ℕ)) (cs : List ℕ) → past 40 cs ≡ None → (formals_at o cs).0 ≡ None
unfolding formals_at
unbracketed None cs none = refl
unbracketed (Some label) cs none = ap (λ (o : Option (List ℕ)). (listed_by cs (o >>= λ inside. formals_by inside (past 41 inside))).0) none

pub none_mapped : {X Y : Type 0} (f : X → Y) (o : Option X) → is_some o ≡ false → option_map f o ≡ None
none_mapped f None e = refl
none_mapped f (Some x) e = absurd (cc)
