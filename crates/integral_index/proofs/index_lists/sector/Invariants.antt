use Rattle.std.proofs.Common.{◌≡◌, ◌^◌, ◌<◌, take}
use Rattle.integral_index.specs.Integral.{sector_of}
use Rattle.integral_index.proofs.index_lists.sector.Given as goal

abbrev pub invariant-loop-index : goal.invariant-loop-index
invariant-loop-index l = record {
  so_far : l.sector ≡ sector_of (take l.index-index l.indices);
  power : l.bit ≡ 2 ^ l.index-index;
  below : l.sector < l.bit;
}
