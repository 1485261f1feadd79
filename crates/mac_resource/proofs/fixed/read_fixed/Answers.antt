use native.Mathlib.Omega.{arith}
use borrow.Author.Tests.{eq-eqb, ne_eqb}
use Rattle.codec.proofs.Laws.Header.{parsed_word}
use Rattle.codec.proofs.Laws.Ahead.{onward}
use Rattle.mac_resource.specs.Fixed.{fixed_len, read_fixed, read_behind_type}
use Rattle.mac_resource.proofs.fixed.read_fixed.Goals as goal

pub returns-then-x-ne-RESOURCE : goal.returns-then-x-ne-RESOURCE
unfolding read_fixed
returns-then-x-ne-RESOURCE c = record {
  of = λ h e. record {
    means = rw (c.wrong_type.ensures, parsed_word read_fixed (c.next_bits-x.ensures.word h e c.if-a-lt-FIXED_BITS.false), ne_eqb _ _ c.if-x-ne-RESOURCE.true);
  };
  onward = tt;
}

pub returns : goal.returns
unfolding read_fixed read_behind_type
returns c =
    let l = c.if-a-lt-FIXED_BITS.false in
    record {
      of = λ h e. record {
        means = rw (c.advance.ensures, parsed_word read_fixed (c.next_bits-x.ensures.word h e l), eq-eqb _ _ c.if-x-ne-RESOURCE.false, c.from_raw.ensures);
      };
      onward = rw c.advance.ensures (onward fixed_len fixed_len (omega arith) l);
    }
