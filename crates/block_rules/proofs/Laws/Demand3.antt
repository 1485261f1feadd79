-- Demand 3, proved of every codec of headers that keeps its laws.
use Rattle.std.specs.Prelude.{List, ℕ}
use Rattle.block_rules.specs.Codec.{Codec, Laws}
use Rattle.block_rules.specs.Run.{Call, start, run}
use Rattle.block_rules.specs.Demand3.{OfTheWalk, OfAlteredPdus, OfARun, OfEachCall, Demand3}
use Rattle.block_rules.proofs.Laws.Held.{steps, covers, count, parts, own_bits-alone}
use Rattle.block_rules.proofs.Laws.Altered.{several, one, any_bits_lem}
use Rattle.block_rules.proofs.Laws.Calls.{refused_call, same_length_lem, run_holds, untouched, after_finish_lem, add-after-finish}
use Rattle.block_rules.proofs.Laws.Runs.{run_reads}

module _ {A H : Type 0} (C : Codec A H) (L : Laws C) where
  of_the_walk : OfTheWalk C.reader
  of_the_walk = record {
    steps = steps C.reader;
    covers = covers C.reader;
    count = count C.reader;
    parts = λ n v holds. parts C.reader n v holds L.inside;
    own_bits_alone = own_bits-alone C.reader;
  }

  of-altered_pdus : OfAlteredPdus C.reader
  of-altered_pdus = record { any_bits = any_bits_lem C.reader; one = one C.reader; several = several C.reader }

  -- what a run left, which the walk reads as expected, is a block like any other
  abbrev left : ℕ → List ℕ → List (Call A) → List ℕ
  left n v cs = (run C.writer n cs (start v)).bytes

  of_a_run : OfARun C
  of_a_run = record {
    written = run_reads C L;
    one_altered = λ n v v' holds holds' cs t k e a.
        rw (← run_reads C L n v holds cs t) (one C.reader n (left n v cs) v' (run_holds C.writer n cs (start v) holds) holds' k e a);
    several_altered = λ n v v' holds holds' cs t altered a.
        rw (← run_reads C L n v holds cs t) (several C.reader n (left n v cs) v' (run_holds C.writer n cs (start v) holds) holds' altered a);
  }

  of_each_call : OfEachCall C.writer
  of_each_call = record {
    refused = refused_call C.writer;
    untouched = untouched C L;
    same_length = same_length_lem C.writer;
    after_finish = after_finish_lem C L;
    add_after_finish = add-after-finish C L;
  }

  pub demand_3 : Demand3 C
  demand_3 = record { walks = of_the_walk; altered = of-altered_pdus; runs = of_a_run; calls = of_each_call }
