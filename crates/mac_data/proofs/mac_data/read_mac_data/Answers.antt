use Rattle.std.proofs.Common.{refl, lit≤}
use Rattle.std.proofs.lemmas.Result.{err_from_is_err_and}
use Rattle.codec.proofs.Laws.Reader.{parse_bind}
use Rattle.codec.proofs.Laws.Ahead.{onward_then, next-read, on-from}
use Rattle.mac_data.specs.MacData.{data_most, option_size, read_mac_data}
use Rattle.mac_data.proofs.mac_data.read_mac_data.Goals as goal

pub returns-in_err-behind : goal.returns-in_err-behind
unfolding read_mac_data
returns-in_err-behind c =
    let p = err_from_is_err_and c.from_residual.result c.from_residual.ensures.1 in
    rw (p.1, p.2) (record { of = λ h e. record { means = rw (parse_bind, next-read c.read_uplink_head.ensures e refl c.in_err-behind.was) }; onward = tt })

pub read_option-requires : goal.read_option-requires
read_option-requires c =
    (on-from c.read_uplink_head.ensures c.in_ok-behind.was).ready option_size c.requires

pub returns-in_err-after : goal.returns-in_err-after
unfolding read_mac_data
returns-in_err-after c =
    let f = c.read_uplink_head.ensures in
    let p = err_from_is_err_and c.from_residual-in_err-after.result c.from_residual-in_err-after.ensures.1 in
    rw (p.1, p.2) (record {
      of = λ h e. record {
        means = rw (
          parse_bind,
          next-read f e refl c.in_ok-behind.was,
          parse_bind,
          next-read c.read_option.ensures ((on-from f c.in_ok-behind.was).held h e) refl c.in_err-after.was,
        );
      };
      onward = tt;
    })

pub returns : goal.returns
unfolding read_mac_data
returns c =
    let f = c.read_uplink_head.ensures in
    let b = on-from f c.in_ok-behind.was in
    record {
      of = λ h e. record {
        means = rw (
          parse_bind,
          next-read f e refl c.in_ok-behind.was,
          parse_bind,
          next-read c.read_option.ensures (b.held h e) refl c.in_ok-after.was,
          c.header_of.ensures,
        );
      };
      onward = onward_then data_most b (on-from c.read_option.ensures c.in_ok-after.was) (lit≤ tt);
    }
