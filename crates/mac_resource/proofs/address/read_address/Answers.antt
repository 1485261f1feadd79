use mathlib.Core.Path.{◌∙◌, sym}
use Rattle.codec.proofs.Laws.Ahead.{onward, onward-none}
use Rattle.mac_resource.specs.Address.{address_most, read_address}
use Rattle.mac_resource.proofs.Words.{address-none, address_parsed, address-short}
use Rattle.mac_resource.proofs.address.read_address.Goals as goal

pub returns-then-n-eq0 : goal.returns-then-n-eq0
unfolding read_address
returns-then-n-eq0 c =
    let n = address-none c.args.t (sym c.address_len-n.ensures.0 ∙ c.if-n-eq0.true) in
    record { of = λ h e. record { means = rw n }; onward = onward-none address_most }

pub returns-then-a-n : goal.returns-then-a-n
returns-then-a-n c =
    record {
      of = λ h e. record { means = rw (c.fields_past_end.ensures, address-short c.args.t e (rw c.address_len-n.ensures.0 at c.if-a-n.true)) };
      onward = tt;
    }

pub returns : goal.returns
returns c =
    let n = c.address_len-n.ensures.0 in
    record {
      of = λ h e. record {
        means = rw (c.address_of.ensures, c.advance.ensures, n, address_parsed c.args.t (rw n at (c.next_bits-x.ensures.word h e c.if-a-n.false)));
      };
      onward = rw c.advance.ensures (onward _ address_most c.address_len-n.ensures.1 c.if-a-n.false);
    }
