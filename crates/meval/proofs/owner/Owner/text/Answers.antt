-- SPDX-License-Identifier: Apache-2.0
use Rattle.meval.proofs.NodeNames.{account_is_ascii}
use Rattle.meval.proofs.owner.Owner.text.Goals as goal

pub from_slice-requires : goal.from_slice-requires
from_slice-requires c = account_is_ascii _ c.as_bytes.ensures.is_name
