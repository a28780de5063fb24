-- SPDX-License-Identifier: Apache-2.0
use Rattle.mkey.proofs.KeyWords.{subst}
use Rattle.mspec.specs.KeyBytes.{AreSubscripts}
use Rattle.mkey.proofs.subs.Subs.values.Goals as goal

pub returns-in_err-values-clause-subs : goal.returns-in_err-values-clause-subs
returns-in_err-values-clause-subs c = subst AreSubscripts c.self.view_is c.self.invariant.0

pub returns-in_err-copy-clause-subs : goal.returns-in_err-copy-clause-subs
returns-in_err-copy-clause-subs c = subst AreSubscripts c.self.view_is c.self.invariant.0

pub returns-in_err-push-clause-subs : goal.returns-in_err-push-clause-subs
returns-in_err-push-clause-subs c = subst AreSubscripts c.self.view_is c.self.invariant.0

pub returns-clause-subs : goal.returns-clause-subs
returns-clause-subs c = subst AreSubscripts c.self.view_is c.self.invariant.0
