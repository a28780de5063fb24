-- SPDX-License-Identifier: Apache-2.0
-- What operations do on examples, as proved equations: an account does what its settings let it, and nothing else.
use Rattle.mmeaning.proofs.MeaningWords.{◌≡◌, [], ◌∷◌, None, true, false, rules, codes, empty, get, insert, remove, LockName, taken, released, May, Value}
use Rattle.mmeaning.proofs.MeaningWords.{Status, Put, Kill, Take, State, Gives, Fails, Halting, Quits, World, Finished, Halted, ended, kept, Read, Write}
use Rattle.mmeaning.proofs.MeaningWords.{status, Shared, act, took, Text, Node}
use Rattle.mspec.specs.Access.{Settings}
use Rattle.mmeaning.proofs.ExampleAccount.{account_named}

-- ALICE lets BOB read her global X
abbrev lending : Settings
lending = record {
  accounts = account_named (codes "ALICE") ∷ account_named (codes "BOB") ∷ [];
  terminals = empty;
  grants = record { from = codes "ALICE"; to = codes "BOB"; global = codes "X"; mode = Read } ∷ [];
}

abbrev hers : Text → Node
hers name = record { account = codes "ALICE"; name = name; subscripts = codes "1" ∷ [] }

record Operations : Type 0 where
  -- her own global, by herself
  own_value : (w : Shared) → act lending 1 (codes "ALICE") (Value (hers (codes "X"))) w ≡ (get w.globals (hers (codes "X")), w)
  own_text : (w : Shared) → act lending 1 (codes "ALICE") (Put (hers (codes "Y")) (codes "a")) w ≡ (tt, record w { globals = insert w.globals (hers (codes "Y")) (codes "a") })
  -- by another, what is granted
  granted_status : (w : Shared) → act lending 2 (codes "BOB") (Status (hers (codes "X"))) w ≡ (status w.globals (hers (codes "X")), w)
  may_read : (w : Shared) → act lending 2 (codes "BOB") (May (codes "ALICE") (codes "X") Read) w ≡ (true, w)
  may_not_write : (w : Shared) → act lending 2 (codes "BOB") (May (codes "ALICE") (codes "X") Write) w ≡ (false, w)
  -- and what is not: nothing is answered, and nothing changes
  other_value : (w : Shared) → act lending 2 (codes "BOB") (Value (hers (codes "Y"))) w ≡ (None, w)
  other_text : (w : Shared) → act lending 2 (codes "BOB") (Put (hers (codes "X")) (codes "a")) w ≡ (tt, w)
  other_subtree : (w : Shared) → act lending 2 (codes "BOB") (Kill (hers (codes "X"))) w ≡ (tt, w)

operations : Operations
operations = search rules

-- a lock on a global's name wants that it may be written, and one on another name that it is one's own
abbrev lock : Node → LockName
lock n = record { global = true; node = n }

record Ends : Type 0 where
  own_lock : (w : Shared) → act lending 1 (codes "ALICE") (Take (lock (hers (codes "X")) ∷ [])) w ≡ took w (taken w.locks 1 (lock (hers (codes "X")) ∷ []))
  other_lock : (w : Shared) → act lending 2 (codes "BOB") (Take (lock (hers (codes "X")) ∷ [])) w ≡ (false, w)
  -- a line that halts closes its session and releases its locks; one that quits does neither
  halted : (world : World) (s : State) (w : Shared) → ended 1 world (Fails Halting s, w) ≡ (record { out = s.out; ending = Halted }, record { shared = record w { locks = released w.locks 1 }; sessions = remove world.sessions 1 })
  quitted : (world : World) (s : State) (w : Shared) → ended 1 world (Gives Quits s, w) ≡ (record { out = s.out; ending = Finished }, record { shared = w; sessions = insert world.sessions 1 (kept s) })

ends : Ends
ends = search rules
