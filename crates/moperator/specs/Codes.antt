-- SPDX-License-Identifier: Apache-2.0
-- A code of the program as a fault of the definitions: one of the line's own codes, or a loss.
use Rattle.mspec.specs.Code as spec
use Rattle.moperator.specs.declared.code.Code.{Code}
use Rattle.moperator.specs.declared.code.Code.TheVariants as code

abbrev pub fault_of : Code → spec.Fault
fault_of code.M1 = spec.Own spec.M1
fault_of code.M2 = spec.Own spec.M2
fault_of code.M4 = spec.Own spec.M4
fault_of code.M6 = spec.Own spec.M6
fault_of code.M7 = spec.Own spec.M7
fault_of code.M9 = spec.Own spec.M9
fault_of code.M10 = spec.Own spec.M10
fault_of code.M11 = spec.Own spec.M11
fault_of code.M13 = spec.Own spec.M13
fault_of code.M15 = spec.Own spec.M15
fault_of code.M16 = spec.Own spec.M16
fault_of code.M17 = spec.Own spec.M17
fault_of code.M19 = spec.Own spec.M19
fault_of code.M20 = spec.Own spec.M20
fault_of code.M28 = spec.Own spec.M28
fault_of code.M58 = spec.Own spec.M58
fault_of code.M90 = spec.Own spec.M90
fault_of code.M94 = spec.Own spec.M94
fault_of code.Zlong = spec.Own spec.Zlong
fault_of code.Zsyntax = spec.Own spec.Zsyntax
fault_of code.Zover = spec.Own spec.Zover
fault_of code.Zarg = spec.Own spec.Zarg
fault_of code.Zsub = spec.Own spec.Zsub
fault_of code.Zgrant = spec.Own spec.Zgrant
fault_of code.Zlocked = spec.Own spec.Zlocked
fault_of code.Zsteps = spec.Own spec.Zsteps
fault_of code.Zdepth = spec.Own spec.Zdepth
fault_of code.Zlevel = spec.Own spec.Zlevel
fault_of code.Zchar = spec.Own spec.Zchar
fault_of code.Zline = spec.Own spec.Zline
fault_of code.Zterm = spec.Own spec.Zterm
fault_of code.Halting = spec.Own spec.Halting
fault_of code.Zmem = spec.Lost spec.Memory
fault_of code.Zstore = spec.Lost spec.Store
