-- The number so far is that of the first bytes, below 256 to their number.
use Rattle.object.specs.Layout.{ReadIs}
use Rattle.object.proofs.reader.big_endian.Given as goal

abbrev pub invariant-loop-byte : goal.invariant-loop-byte
invariant-loop-byte l = ReadIs l.s l.at l.byte-index l.number
