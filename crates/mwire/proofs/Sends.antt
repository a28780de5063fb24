-- SPDX-License-Identifier: Apache-2.0
-- Bytes that are sent bit by bit.
use Rattle.mwire.proofs.WireWords.{◌≡◌, ◌++◌, ◌-◌, [], ℕ, refl, Bool, true, Option, length, take, drop, Appends-nil, Appends-trans, Appends, Text, SentUpTo}
use Rattle.mwire.proofs.WireWords.{FrontSent, ap, ◌∙◌, append-nil}
use Rattle.mwire.proofs.Fronts.{rest_after}

pub SentUpTo-start : (bytes : Text) (before : Option Text) → SentUpTo bytes bytes before before
SentUpTo-start bytes before = record { part = []; of_bytes = refl; appended = Appends-nil before }

pub SentUpTo-more : (bytes rest : Text) (before now after : Option Text) (n : ℕ) → SentUpTo bytes rest before now → Appends now after (take n rest)
    → SentUpTo bytes (take (length rest - n) (drop n rest)) before after
SentUpTo-more bytes rest before now after n s a = record {
  part = s.part ++ take n rest;
  of_bytes = rest_after bytes s.part rest n s.of_bytes;
  appended = Appends-trans before now after s.part (take n rest) s.appended a;
}

-- if all was sent
pub FrontSent-whole : {bytes : Text} {before after : Option Text} (s : FrontSent bytes before after true) → bytes ≡ s.part
FrontSent-whole s = s.of_bytes ∙ (ap (λ x. s.part ++ x) (s.all_sent refl) ∙ append-nil s.part)

-- of an answer none is sent
pub FrontSent-none : (bytes : Text) (before : Option Text) (whole : Bool) → (whole ≡ true → bytes ≡ []) → FrontSent bytes before before whole
FrontSent-none bytes before whole all = record { part = []; unsent = bytes; of_bytes = refl; all_sent = all; appended = Appends-nil before }
