-- SPDX-License-Identifier: Apache-2.0
-- Replies that do not say that the store failed.
use Rattle.std.specs.Prelude.{◌≢◌, List}
use Rattle.std.specs.List.{All}
use Rattle.mspec.specs.Code.{Lost, Store}
use Rattle.mmeaning.specs.Transition.{Faulted, Reply}
use Rattle.misolation.specs.Telling.{Told}

abbrev pub StoreSufficed : Reply → Type 0
StoreSufficed reply = reply.ending ≢ Faulted (Lost Store)

-- none that an account was told does
abbrev pub StoreSufficedForTold : List Told → Type 0
StoreSufficedForTold told = All (λ t. StoreSufficed t.reply) told
