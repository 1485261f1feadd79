-- A header on its way out is added as the header that it is the encoding of, whatever its kind.
use Rattle.std.specs.Prelude.{◌≡◌, refl, false, List, ℕ, zero, suc, ◌≤◌, ◌<◌, length}
use Rattle.std.proofs.Math.Path.{ap}
use Rattle.std.proofs.Common.{◌∙◌, arith}
use Rattle.tetra_core.specs.Refusal.{refused_by}
use Rattle.codec.specs.Encoded.{size_of, bits_with, EncodesHeader}
use Rattle.codec.specs.declared.encoded.EncodedHeader.{EncodedHeader}
use Rattle.block_rules.specs.Numbers.{most_bits}
use Rattle.block_rules.specs.Ending.{length_of}
use Rattle.block_rules.specs.Codec.{HeaderWriter}
use Rattle.block_rules.specs.Writer as writer
use Rattle.block_rules.specs.Writer.{Writer, after, refusal_of, add_of, added_of, added_bits, added, add_to}
use Rattle.block_rules.proofs.Laws.Refusals.{roomy}
use Rattle.mac_block.specs.declared.writer.Written.{Written}
use Rattle.mac_block.specs.Answers.{add_answer}
use Rattle.mac_block.specs.Added.{encoded_to, encoded_answer}

after_same : (j : ℕ) (w : Writer) {x y : Writer} → (j ≡ 0 → x ≡ y) → after j w x ≡ after j w y
unfolding after
after_same zero w e = e refl
after_same (suc j) w e = refl

module _ {A : Type 0} (W : HeaderWriter A) (a : A) {e : EncodedHeader} (x : EncodesHeader (W.check a) (W.header_len a) (W.write_header a) e)
    (small : (n : ℕ) → n ≤ most_bits → length_of (W.ending a) n < 64) (n : ℕ) (w : Writer) (content : List ℕ) (k : ℕ) where
  counted : size_of e ≡ W.header_len a
  counted = omega (arith, (x.encodes 0 false (omega arith)).bit_count)

  numbered : refused_by e.judged ≡ W.check a
  numbered = (x.encodes 0 false (omega arith)).number

  left_as : encoded_to n w e (W.ending a) content k ≡ add_to W n w (add_of a content k)
  unfolding encoded_to add_to writer.add_refusal added_of added added_bits bits_with
  left_as =
      rw (counted, numbered)
      (after_same (refusal_of (length w.bytes) n w.bit (W.header_len a) (W.check a) (length content) k) w λ z.
      let r = roomy (W.header_len a) (W.check a) k w.bytes n w.bit (length content) z in
      rw ((x.encodes _ _ (small _ r.small)).bits r.fine))

  pub header-added : {r : Written} {t : List ℕ}
      → (r ≡ encoded_answer n w e (W.ending a) content k) × (t ≡ (encoded_to n w e (W.ending a) content k).bytes)
      → (r ≡ add_answer W n w (add_of a content k)) × (t ≡ (add_to W n w (add_of a content k)).bytes)
  unfolding encoded_answer add_answer writer.add_refusal
  header-added y = (y.0 ∙ rw (left_as, counted, numbered), y.1 ∙ ap (λ (u : Writer). u.bytes) left_as)
