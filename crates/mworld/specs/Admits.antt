-- SPDX-License-Identifier: Apache-2.0
-- The checks that come before a line's text is parsed.
use Rattle.std.specs.Prelude.{◌≡◌, true, false, Some, ℕ, Result, Ok, Err}
use Rattle.std.specs.FinMap.{get}
use Rattle.mspec.specs.Code as spec
use Rattle.mspec.specs.Access.{Account, Settings, name_at, steps_at, language_at}
use Rattle.mmeaning.specs.Transition.{Event, World, normal, refused, is_too_long, is_ascii}
use Rattle.moperator.specs.Codes.{fault_of}
use Rattle.moperator.specs.declared.code.Code.{Code}

-- the event passes them, and this is the place of its terminal's account
pub record Passes (settings : Settings) (e : Event) (place : ℕ) : Type 0 where
  pub account : Account
  pub known : get settings.terminals e.terminal ≡ Some account
  pub name : account.name ≡ name_at settings place
  pub steps : account.steps ≡ steps_at settings place
  pub language : account.language ≡ language_at settings place
  pub short : is_too_long e.text ≡ false
  pub ascii : is_ascii e.text ≡ true

-- or its transition is answered by the code of the first that it fails
abbrev pub Admits : Settings → Event → Result ℕ Code → Type 0
Admits settings e (Ok place) = Passes settings e place
Admits settings e (Err c) = (own : spec.Code) × (fault_of c ≡ spec.Own own) × ((world : World) → normal settings e world ≡ refused own world)
