-- The memory as power comes.
use Rattle.std.proofs.Common.{◌≡◌, ℕ, length}
use Rattle.std.proofs.lemmas.List.{length-replicate}
use Rattle.engine_next.specs.Memory.{start_memory}
use Rattle.engine_next.specs.Own.{own}

pub start_length : length start_memory ≡ 262144
unfolding start_memory
start_length = length-replicate {A = ℕ} 262144 0

pub own_start : length own.start ≡ 262144
unfolding own
own_start = start_length
