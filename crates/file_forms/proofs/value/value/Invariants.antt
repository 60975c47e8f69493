use Rattle.std.proofs.Common.{◌≡◌, ◌+◌, ◌*◌, ◌^◌, ◌-◌, ◌<◌, length, drop}
use Rattle.file_forms.specs.Forms.{number_in}
use Rattle.file_forms.proofs.value.value.Given as goal

-- the bytes so far are worth the value, with the weight of those that are left
abbrev pub invariant-loop-byte : goal.invariant-loop-byte
invariant-loop-byte l = record {
  is : number_in l.bytes ≡ l.value * 256 ^ (length l.bytes - l.byte-index) + number_in (drop l.byte-index l.bytes);
  below : l.value < 256 ^ l.byte-index;
}
