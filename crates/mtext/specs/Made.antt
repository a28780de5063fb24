-- SPDX-License-Identifier: Apache-2.0
-- What a call that makes a text answers.
use Rattle.std.specs.Prelude.{◌≡◌, ◌%◌, ◌==◌, ◌&&◌, nat_lt, if◌then◌else◌, ℕ, ◌+◌, List, [], ◌∷◌, ◌++◌, take, drop, Result, Ok, Err, IsOk}
use Rattle.std.specs.List.{flat_map}
use Rattle.mspec.specs.TextFunctions.{translated_at, first_place}
use Rattle.mspec.specs.Code.{Code, M2, Zarg, Zlong}
use Rattle.mtext.specs.declared.fault.TextFault.{TextFault}
use Rattle.mtext.specs.declared.fault.TextFault.TheVariants.{Arg, Format, TooLong, Memory}

-- the characters of a translation
abbrev pub translation : List ℕ → List ℕ → List ℕ → List ℕ
translation s from to = flat_map (λ c. translated_at to c (first_place (c ∷ []) from)) s

-- the comma before this many digits, if they are whole threes
abbrev pub comma_before : ℕ → List ℕ
comma_before left = if nat_lt 0 left && (left % 3 == 0) then 44 ∷ [] else []

-- the list without those that follow the one after the first `before`, up to as many as are said
abbrev pub without : ℕ → ℕ → List (List ℕ) → List (List ℕ)
without before more ps = take (before + 1) ps ++ drop (before + 1 + more) ps

-- a call that is to make this text, or to refuse by this code, answers so; memory can run out only for a text
abbrev pub Answers : Result (List ℕ) Code → Result (List ℕ) TextFault → Type 0
Answers wanted (Ok text) = wanted ≡ Ok text
Answers wanted (Err Arg) = wanted ≡ Err Zarg
Answers wanted (Err Format) = wanted ≡ Err M2
Answers wanted (Err TooLong) = wanted ≡ Err Zlong
Answers wanted (Err Memory) = IsOk wanted
