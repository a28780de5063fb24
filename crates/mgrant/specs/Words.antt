-- SPDX-License-Identifier: Apache-2.0
-- Different texts in a list, with a hash map from each to its place.
use Rattle.std.specs.Prelude.{◌≡◌, ℕ, List, [], map, slice_get, Option, Some, unwrap_or, Vec}
use Rattle.std.specs.HashMap.{HashMap, get_by}
use Rattle.std.specs.Str.{bytes_eq}
use Rattle.std.specs.declared.alloc.Global.{Global}
use Rattle.std.specs.declared.hash.FoldHasher.{FoldHasher}
use Rattle.std.specs.declared.hash.BuildHasherDefault.{BuildHasherDefault}
use Rattle.mspec.specs.Node.{Text}

abbrev pub Bytes : Type 0
Bytes = Vec ℕ Global

abbrev pub Places : Type 0
Places = HashMap Bytes ℕ (BuildHasherDefault FoldHasher)

abbrev pub texts_of : List Bytes → List Text
texts_of vs = map (λ v. v.items) vs

-- the text at a place, which is empty if there is none
abbrev pub text_in : List Text → ℕ → Text
text_in texts i = unwrap_or (slice_get texts i) []

-- the place that the map has for a text
abbrev pub found_at : Places → Text → Option ℕ
found_at places text = get_by (λ v. bytes_eq text v.items) places

-- the map has the place of each text, and no others
pub record IsIndex (texts : List Text) (places : Places) : Type 0 where
  pub found : (text : Text) (i : ℕ) → found_at places text ≡ Some i → slice_get texts i ≡ Some text
  pub each : (text : Text) (i : ℕ) → slice_get texts i ≡ Some text → found_at places text ≡ Some i

-- the text is at that place, and at no other
pub record IsPlaceOf (texts : List Text) (text : Text) (i : ℕ) : Type 0 where
  pub here : slice_get texts i ≡ Some text
  pub alone : (j : ℕ) → slice_get texts j ≡ Some text → j ≡ i
