-- SPDX-License-Identifier: Apache-2.0
-- The classes of letters, one after another.
use Rattle.std.proofs.Common.{◌≡◌, ℕ, zero, suc, ◌+◌, ◌<◌, Bool, true, false, List, [], ◌∷◌, length, get_or, map, drop, refl, sym, ap, ◌∙◌, arith}
use Rattle.std.specs.Prelude.{◌||◌}
use Rattle.mspec.specs.Pattern as plain
use Rattle.mspec.specs.Pattern.{is_in, is_in_any}
use Rattle.mgrammar.specs.Matching.{pattern_code}

swapped : (a b r : Bool) → ((a || b) || r) ≡ (b || (a || r))
swapped true true r = refl
swapped true false r = refl
swapped false true r = refl
swapped false false r = refl

at_letter : (letters : List ℕ) (i x : ℕ) → i < length letters →
    is_in_any (map pattern_code (drop i letters)) x ≡ (is_in (pattern_code (get_or letters i 0)) x || is_in_any (map pattern_code (drop (i + 1) letters)) x)
at_letter [] i x within = absurd (omega arith)
at_letter (c ∷ letters) zero x within = refl
at_letter (c ∷ letters) (suc i) x within =
    let more : suc (i + 1) ≡ suc i + 1 = omega arith in
    at_letter letters i x (omega arith)
    ∙ ap (λ (n : ℕ). is_in (pattern_code (get_or letters i 0)) x || is_in_any (map pattern_code (drop n (c ∷ letters))) x) more

pub letter_more : (letters : List ℕ) (i x : ℕ) (old new : Bool) (code : plain.PatternCode) → i < length letters → code ≡ pattern_code (get_or letters i 0) → new ≡ (is_in code x || old) →
    (old || is_in_any (map pattern_code (drop i letters)) x) ≡ is_in_any (map pattern_code letters) x →
    (new || is_in_any (map pattern_code (drop (i + 1) letters)) x) ≡ is_in_any (map pattern_code letters) x
letter_more letters i x old new code within is_code is_new known =
    let rest = is_in_any (map pattern_code (drop (i + 1) letters)) x in
    ap (λ (b : Bool). b || rest) (is_new ∙ ap (λ (k : plain.PatternCode). is_in k x || old) is_code)
    ∙ swapped (is_in (pattern_code (get_or letters i 0)) x) old rest
    ∙ ap (λ (b : Bool). old || b) (sym (at_letter letters i x within)) ∙ known
