-- SPDX-License-Identifier: Apache-2.0
-- A line that was written, or of which a front was.
use Rattle.mhost.proofs.HostWords.{◌≡◌, [], ◌∷◌, Option, Result, Ok, Err, Text, Watched, WireFault, RunFault}
use Rattle.std.proofs.Common.{◌++◌, IfErr, false, is_ok}
use Rattle.mwire.specs.Progress.{FrontSent}
use Rattle.mwire.specs.Watched.{inner_of, WriteFailed}
use Rattle.mwire.specs.declared.fault.WireFault.TheVariants.{Write}
use Rattle.mhost.specs.Reports.{fault_text, IsReported}

module _ {E : Type 0} (held : E → Option Text) (fault : RunFault) (errors errors' : Watched E) where
  broke : (result : Result (Unit {0}) WireFault) → IfErr result (λ e. (e ≡ Write) × WriteFailed errors errors') → is_ok result ≡ false → WriteFailed errors errors'
  broke (Ok done) h e = cc
  broke (Err f) h e = h.1

  pub reported : (result : Result (Unit {0}) WireFault) → FrontSent (fault_text fault ++ 10 ∷ []) (held (inner_of errors)) (held (inner_of errors')) (is_ok result)
      → IfErr result (λ e. (e ≡ Write) × WriteFailed errors errors') → IsReported held fault errors errors'
  reported result sent fails = record { whole = is_ok result; sent = sent; broke = broke result fails }
