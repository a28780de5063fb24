-- SPDX-License-Identifier: Apache-2.0
-- What has been put into a buffer.
use Rattle.mkey.proofs.KeyWords.{◌≡◌, ℕ, List, ◌++◌, Result, is_ok, IsOk, Ok, Err, if◌then◌else◌}

-- what was put if there was space
pub put_where_room : {E : Type 0} (r : Result (Unit {0}) E) (new old more : List ℕ) → new ≡ (if is_ok r then old ++ more else old) → IsOk r → new ≡ old ++ more
put_where_room (Ok u) new old more e is = e
put_where_room (Err error) new old more e is = absurd (cc)
