-- SPDX-License-Identifier: Apache-2.0
pub returns : Rattle.mmeaning.proofs.call_laws.function_keeps_test.Goals.returns
returns c = Rattle.mmeaning.proofs.KeptTests.function_keeps_test
