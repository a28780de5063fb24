-- SPDX-License-Identifier: Apache-2.0
-- What a parsing function returned, against what reading gives.
use Rattle.std.specs.Prelude.{◌≡◌, Option, Some, None, Result, Ok, Err}
use Rattle.mscan.specs.declared.fault.ParseFault.{ParseFault}
use Rattle.mscan.specs.declared.fault.ParseFault.TheVariants.{Syntax, Memory}

-- Syntax comes if nothing is read; memory can run out anywhere
abbrev pub Fails : {Y : Type 0} → ParseFault → Option Y → Type 0
Fails Syntax read = read ≡ None
Fails Memory read = Unit {0}

-- what was returned, seen by `view`, is what is read
abbrev pub Gives : {X Y : Type 0} → (X → Y) → Result X ParseFault → Option Y → Type 0
Gives view (Ok x) read = read ≡ Some (view x)
Gives view (Err e) read = Fails e read
