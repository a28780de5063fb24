-- SPDX-License-Identifier: Apache-2.0
-- How an output is shown, one line after another.
use Rattle.mwire.proofs.WireWords.{◌≡◌, ◌++◌, ◌+◌, ◌<◌, ◌≤◌, List, [], ◌∷◌, ℕ, sym, ap, ◌∙◌, append_assoc, length, take, drop, Result, OnOk, arith, slice_split}
use Rattle.mwire.proofs.WireWords.{position_or_len, slice_split_first, slice_split_none, length-slice_split, fails_before_first, Text, shown, output_text}
use Rattle.mwire.proofs.WireWords.{is_line_end}
use Rattle.mwire.proofs.Results.{on_ok_then}

output_text-line : (digits line : Text) (parts : List Text) (n : ℕ) → length parts ≡ n + 1
    → output_text digits (line ∷ parts) ≡ digits ++ 58 ∷ shown line ++ 10 ∷ output_text digits parts
output_text-line digits line parts n h = grind arith

join : (old digits s rest : Text) → (old ++ digits ++ 58 ∷ s ++ 10 ∷ []) ++ rest ≡ old ++ (digits ++ 58 ∷ s ++ 10 ∷ rest)
join old digits s rest = simp append_assoc

-- a line of the output, up to its end
pub output_more : (digits rest behind old new first : Text) (n : ℕ) → n ≡ position_or_len is_line_end rest → n < length rest → behind ≡ drop (n + 1) rest
    → new ≡ old ++ digits ++ 58 ∷ shown (take n rest) ++ 10 ∷ []
    → old ++ output_text digits (slice_split is_line_end rest) ≡ first
    → new ++ output_text digits (slice_split is_line_end behind) ≡ first
output_more digits rest behind old new first n here inside is_behind pushed so_far =
    let at : position_or_len is_line_end rest < length rest = omega arith in
    let left = drop (position_or_len is_line_end rest + 1) rest in
    let front = take (position_or_len is_line_end rest) rest in
    let parts : output_text digits (slice_split is_line_end rest) ≡ digits ++ 58 ∷ shown front ++ 10 ∷ output_text digits (slice_split is_line_end left) =
    ap (output_text digits) (slice_split_first is_line_end rest 0 at) ∙ output_text-line digits front (slice_split is_line_end left) _ (length-slice_split is_line_end left) in
    let behind_is : behind ≡ left = is_behind ∙ ap (λ i. drop (i + 1) rest) here in
    let front_is : take n rest ≡ front = ap (λ i. take i rest) here in
    rw (pushed, front_is, behind_is) (join old digits (shown front) (output_text digits (slice_split is_line_end left)) ∙ (ap (λ t. old ++ t) (sym parts) ∙ so_far))

one_part : (rest : Text) → length rest ≤ position_or_len is_line_end rest → slice_split is_line_end rest ≡ rest ∷ []
one_part rest end = slice_split_none is_line_end rest (λ k d lt. fails_before_first is_line_end rest k d (omega arith))

-- the rest of the output, which no line end ends
last_shown : (digits rest old new first : Text) → length rest ≤ position_or_len is_line_end rest → 0 < length rest
    → old ++ output_text digits (slice_split is_line_end rest) ≡ first
    → new ≡ old ++ digits ++ 45 ∷ shown rest ++ 10 ∷ [] → new ≡ first
last_shown digits [] old new first end some so_far pushed = absurd (omega arith)
last_shown digits (c ∷ cs) old new first end some so_far pushed =
    let regroup : old ++ digits ++ 45 ∷ shown (c ∷ cs) ++ 10 ∷ [] ≡ old ++ (digits ++ 45 ∷ shown (c ∷ cs) ++ 10 ∷ []) = simp append_assoc in
    pushed ∙ (regroup ∙ (ap (λ parts. old ++ output_text digits parts) (sym (one_part (c ∷ cs) end)) ∙ so_far))

pub output_last : {T E : Type 0} (result : Result T E) (digits rest old new first : Text) → length rest ≤ position_or_len is_line_end rest → 0 < length rest
    → old ++ output_text digits (slice_split is_line_end rest) ≡ first
    → OnOk result (new ≡ old ++ digits ++ 45 ∷ shown rest ++ 10 ∷ []) → OnOk result (new ≡ first)
output_last result digits rest old new first end some so_far pushed = on_ok_then result _ _ pushed (last_shown digits rest old new first end some so_far)
