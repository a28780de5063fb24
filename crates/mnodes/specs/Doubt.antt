-- SPDX-License-Identifier: Apache-2.0
-- How far what is said of a store's content can be relied on.
use Rattle.std.specs.Prelude.{◌≡◌, ◌≤◌, ℕ, Bool, false, IsTrue}

-- Doubt is a number: 0, what is said of the content holds; 1, nothing is said any more, since a fault has shut the store; 2, nothing is
-- said at all, since a wrong answer of the disk may have been taken as true, which no call tells, or was never said.
abbrev pub shut : ℕ
shut = 1

-- What a call does to it, and to whether the store has room: it never falls; the call that shuts a store fails; over a sound store it does
-- not rise; and room that is gone does not come back.
pub record Doubts (sound : Type 0) (old new : ℕ) (had_room has_room : Bool) (is_done : Bool) : Type 0 where
  pub order : old ≤ new
  pub failed : old ≡ 0 → new ≡ shut → is_done ≡ false
  pub stays : sound → new ≤ old
  pub room : IsTrue has_room → IsTrue had_room
