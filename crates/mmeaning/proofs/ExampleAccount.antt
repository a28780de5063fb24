-- SPDX-License-Identifier: Apache-2.0
-- The accounts of the examples, and replies to their lines.
use Rattle.mmeaning.proofs.MeaningWords.{ℕ, [], ◌∷◌, codes, empty, insert, Code, Own, Text, Given, Account, Settings, Reply, Finished, Faulted}
use Rattle.mspec.specs.Act.{given_to}

-- what a line of terminal 1 is given whose account has the profile
abbrev pub of_profile : Given
of_profile = given_to 1 0

-- an account of this name, with 2,000 steps a line and the profile
abbrev pub account_named : Text → Account
account_named name = record { name = name; steps = 2000; language = 0 }

-- ALICE with this many steps a line
abbrev pub with_steps : ℕ → Account
with_steps n = record { name = codes "ALICE"; steps = n; language = 0 }

-- whose lines are read in this language
abbrev pub alice_in : ℕ → Account
alice_in language = record { name = codes "ALICE"; steps = 2000; language = language }

abbrev pub account : Account
account = with_steps 2000

-- terminal 1 of an account
abbrev pub settings_of : Account → Settings
settings_of a = record { accounts = a ∷ []; terminals = insert empty 1 a; grants = [] }

-- of ALICE, with 2,000 steps a line
abbrev pub alice : Settings
alice = settings_of account

abbrev pub done : Text → Reply
done out = record { out = out; ending = Finished }

abbrev pub failed : Text → Code → Reply
failed out code = record { out = out; ending = Faulted (Own code) }
