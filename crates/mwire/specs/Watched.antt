-- SPDX-License-Identifier: Apache-2.0
-- What contracts see of a `Watched`.
use Rattle.std.specs.Prelude.{◌≡◌, ◌⊎◌, ℕ, ◌+◌, ◌-◌, ◌^◌, min, Bool, true, false, ◌==◌, ◌&&◌, nat_lt, List, length, Result, Ok, Err}
use Rattle.mwire.specs.declared.watched.Watched.{Watched}

-- the reader or writer inside
abbrev pub inner_of : {T : Type 0} → Watched T → T
inner_of w = w.inner

-- whether a call of the inner one has answered an error
abbrev pub failed_of : {T : Type 0} → Watched T → Bool
failed_of w = w.failed

-- how many calls of `read` there were, up to `u64::MAX`
abbrev pub calls_of : {T : Type 0} → Watched T → ℕ
calls_of w = w.calls

-- how many calls of `write` took none of the bytes that they were given, up to `u64::MAX`
abbrev pub stalls_of : {T : Type 0} → Watched T → ℕ
stalls_of w = w.stalls

-- this many more, up to `u64::MAX`
abbrev pub counted_on : ℕ → ℕ → ℕ
counted_on count more = min (count + more) (2 ^ 64 - 1)

-- whether a write took none of these bytes, if there are any
abbrev pub is_stall : {E : Type 0} → List ℕ → Result ℕ E → Bool
is_stall bytes (Ok n) = nat_lt 0 (length bytes) && n == 0
is_stall bytes (Err e) = false

-- why a `Read` is answered: a read failed, or there were as many reads as there may be
abbrev pub ReadFailed : {T : Type 0} → Watched T → Watched T → Type 0
ReadFailed old new = (failed_of new ≡ true) ⊎ (calls_of new ≡ counted_on (calls_of old) 1000000000)

-- why a `Write` is answered: a write failed, or one took nothing
abbrev pub WriteFailed : {T : Type 0} → Watched T → Watched T → Type 0
WriteFailed old new = (failed_of new ≡ true) ⊎ (stalls_of new ≡ counted_on (stalls_of old) 1)
