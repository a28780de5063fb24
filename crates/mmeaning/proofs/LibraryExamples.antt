-- SPDX-License-Identifier: Apache-2.0
-- The lines of another account's routine, as proved equations: read where the owner lets the account read them, and refused otherwise, alike
-- whether there is such an account or not.
use Rattle.mmeaning.proofs.MeaningWords.{◌≡◌, List, [], ◌∷◌, refl, codes, empty, insert, Globals, Locks, Shared, Settings, Grant, Mode, Read, Write, Outcome}
use Rattle.mmeaning.proofs.MeaningWords.{Gives, Fails, State, Text, Zgrant, lines_of, perform, act, lines_of_routine, shared_routine}
use Rattle.mmeaning.proofs.ExampleAccount.{account, account_named}

-- terminal 1 of ALICE, beside a library, with these grants
abbrev beside_library : List Grant → Settings
beside_library grants = record { accounts = account ∷ account_named (codes "LIB") ∷ []; terminals = insert empty 1 account; grants = grants }

-- the library lets ALICE use this global
abbrev lent : Text → Mode → List Grant
lent name mode = record { from = codes "LIB"; to = codes "ALICE"; global = name; mode = mode } ∷ []

module _ (globals : Globals) (locks : Locks) (s : State) where
  abbrev world : Shared
  world = record { globals = globals; locks = locks }

  -- what ALICE is answered who asks for the routine R of this owner
  abbrev asked : List Grant → Text → Outcome (List Text) × Shared
  asked grants owner = perform (act (beside_library grants) 1 (codes "ALICE")) (lines_of_routine (shared_routine owner (codes "R")) s) world

  abbrev told : Text → Outcome (List Text) × Shared
  told owner = (Gives (lines_of globals owner (codes "R")) s, world)

  abbrev refused : Outcome (List Text) × Shared
  refused = (Fails Zgrant s, world)

  record Libraries : Type 0 where
    may_read : asked (lent (codes "ROUTINE") Read) (codes "LIB") ≡ told (codes "LIB")
    may_write : asked (lent (codes "ROUTINE") Write) (codes "LIB") ≡ told (codes "LIB")
    of_another_global : asked (lent (codes "DATES") Read) (codes "LIB") ≡ refused
    without_a_grant : asked [] (codes "LIB") ≡ refused
    of_nobody : asked (lent (codes "ROUTINE") Read) (codes "NOBODY") ≡ refused
    of_no_name : asked (lent (codes "ROUTINE") Read) (codes "L-B") ≡ refused
    of_its_own : asked [] (codes "ALICE") ≡ told (codes "ALICE")

  libraries : Libraries
  libraries = record {
    may_read = refl;
    may_write = refl;
    of_another_global = refl;
    without_a_grant = refl;
    of_nobody = refl;
    of_no_name = refl;
    of_its_own = refl;
  }
