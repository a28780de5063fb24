-- SPDX-License-Identifier: Apache-2.0
-- The codes that end a line, and the losses that cut one short.
--
-- Those that begin with M are from the table of error codes of ISO/IEC 11756:1999; those that begin with Z are mserve's own,
-- as the standard allows an implementation to have. HALT ends a line as a code does, from whatever level, by one that no reply shows.
use Rattle.std.specs.Prelude.{ℕ, Bool, true, false, List, [], codes}

pub data Code : Type 0 where
  M1 : Code
  M2 : Code
  M4 : Code
  M6 : Code
  M7 : Code
  M9 : Code
  M10 : Code
  M11 : Code
  M13 : Code
  M15 : Code
  M16 : Code
  M17 : Code
  M19 : Code
  M20 : Code
  M28 : Code
  M58 : Code
  M90 : Code
  M94 : Code
  Zlong : Code
  Zsyntax : Code
  Zover : Code
  Zarg : Code
  Zsub : Code
  Zgrant : Code
  Zlocked : Code
  Zsteps : Code
  Zdepth : Code
  Zlevel : Code
  Zchar : Code
  Zline : Code
  Zterm : Code
  Halting : Code

-- the code of HALT
abbrev pub is_halting : Code → Bool
is_halting Halting = true
is_halting c = false

-- what did not suffice for a line, which is cut short there; no line answers these by itself
pub data Loss : Type 0 where
  Memory : Loss
  Store : Loss

-- why a line was not carried to its end: a code of its own, or a loss
pub data Fault : Type 0 where
  Own : Code → Fault
  Lost : Loss → Fault

-- a code as a reply shows it; none shows that of HALT
abbrev pub code_text : Code → List ℕ
code_text M1 = codes "M1"
code_text M2 = codes "M2"
code_text M4 = codes "M4"
code_text M6 = codes "M6"
code_text M7 = codes "M7"
code_text M9 = codes "M9"
code_text M10 = codes "M10"
code_text M11 = codes "M11"
code_text M13 = codes "M13"
code_text M15 = codes "M15"
code_text M16 = codes "M16"
code_text M17 = codes "M17"
code_text M19 = codes "M19"
code_text M20 = codes "M20"
code_text M28 = codes "M28"
code_text M58 = codes "M58"
code_text M90 = codes "M90"
code_text M94 = codes "M94"
code_text Zlong = codes "ZLONG"
code_text Zsyntax = codes "ZSYNTAX"
code_text Zover = codes "ZOVER"
code_text Zarg = codes "ZARG"
code_text Zsub = codes "ZSUB"
code_text Zgrant = codes "ZGRANT"
code_text Zlocked = codes "ZLOCKED"
code_text Zsteps = codes "ZSTEPS"
code_text Zdepth = codes "ZDEPTH"
code_text Zlevel = codes "ZLEVEL"
code_text Zchar = codes "ZCHAR"
code_text Zline = codes "ZLINE"
code_text Zterm = codes "ZTERM"
code_text Halting = []

abbrev pub loss_text : Loss → List ℕ
loss_text Memory = codes "ZMEM"
loss_text Store = codes "ZSTORE"

abbrev pub fault_text : Fault → List ℕ
fault_text (Own code) = code_text code
fault_text (Lost loss) = loss_text loss
