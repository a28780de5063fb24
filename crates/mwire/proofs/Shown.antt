-- SPDX-License-Identifier: Apache-2.0
-- How a text is shown, block by block.
use Rattle.mwire.proofs.WireWords.{ℕ, ◌≡◌, ◌++◌, ◌∙◌, [], ◌∷◌, Bool, true, false, refl, sym, ap, arith, append_assoc, list_all, Text, shown, shown_character}
use Rattle.mwire.proofs.WireWords.{is_escaped, Result, Ok, Err, OnOk, is_ok}
use Rattle.std.specs.Prelude.{not, if◌then◌else◌}
use Rattle.std.proofs.lemmas.List.Concat.{flat_map-append}

plain_front : (b : Bool) (c : ℕ) (cs : Text) → is_escaped c ≡ b → (list_all (λ x. not (is_escaped x)) cs ≡ true → shown cs ≡ cs)
    → list_all (λ x. not (is_escaped x)) (c ∷ cs) ≡ true → shown (c ∷ cs) ≡ c ∷ cs
plain_front true c cs e later plain = absurd (grind (arith, e, plain))
plain_front false c cs e later plain = grind (arith, e, plain, later)

-- a text of which no character is escaped
pub shown-plain : (text : Text) → list_all (λ c. not (is_escaped c)) text ≡ true → shown text ≡ text
shown-plain [] plain = refl
shown-plain (c ∷ cs) plain = plain_front (is_escaped c) c cs refl (shown-plain cs) plain

-- a block that was appended as it stands
pub plain_block : {T E : Type 0} (result : Result T E) (old new block : Text) → list_all (λ c. not (is_escaped c)) block ≡ true
    → new ≡ (if is_ok result then old ++ block else old) → OnOk result (new ≡ old ++ shown block)
plain_block (Ok u) old new block plain pushed = rw (shown-plain block plain) pushed
plain_block (Err e) old new block plain pushed = tt

-- what is appended with a block, and what comes after it
pub shown_block : (old new block more rest first : Text) → rest ≡ block ++ more → new ≡ old ++ shown block → old ++ shown rest ≡ first → new ++ shown more ≡ first
shown_block old new block more rest first whole pushed so_far =
    let parts : shown rest ≡ shown block ++ shown more = ap shown whole ∙ flat_map-append shown_character block more in
    rw (pushed, append_assoc) (ap (λ t. old ++ t) (sym parts) ∙ so_far)
