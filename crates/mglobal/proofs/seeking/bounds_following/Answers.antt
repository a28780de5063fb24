-- SPDX-License-Identifier: Apache-2.0
use Rattle.mkey.proofs.Searches.{none_are}
use Rattle.mglobal.proofs.seeking.bounds_following.Goals as goal

pub key_of-requires-clause-subs : goal.key_of-requires-clause-subs
key_of-requires-clause-subs c = none_are
