-- SPDX-License-Identifier: Apache-2.0
-- Which frames are rare.
use Rattle.mexec.proofs.ExecWords.{◌≡◌, refl, true}
use Rattle.mexec.specs.Falls.{is_rare}
use Rattle.mexec.specs.declared.frames.Frame.{Frame}
use Rattle.mexec.specs.declared.frames.Frame.TheVariants as frame

-- those that are of no other kind
pub rare_left : (f : Frame) → ((r : _) → f ≡ frame.Continuation r → ⊥) → ((t : _) → f ≡ frame.ForLoop t → ⊥)
    → ((p : _) (c : _) → f ≡ frame.Level p c → ⊥) → is_rare f ≡ true
rare_left (frame.Continuation r) rests turns levels = absurd (rests r refl)
rare_left (frame.ForLoop t) rests turns levels = absurd (turns t refl)
rare_left (frame.Level p c) rests turns levels = absurd (levels p c refl)
rare_left (frame.PendingArguments l) rests turns levels = refl
rare_left (frame.IndirectArguments g argument) rests turns levels = refl
rare_left (frame.Program s) rests turns levels = refl
rare_left (frame.Condition behind) rests turns levels = refl
