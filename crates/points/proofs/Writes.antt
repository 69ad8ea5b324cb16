-- What the branches of writing ask.
use Rattle.octets.proofs.Kit.{ℕ, ◌≡◌, sym, ap, ap₂, ◌∙◌, Bool, cond, List, ◌++◌, append-nil, length, drop, drop-length}
use Rattle.octets.proofs.Kit.{eq-eqb}
use Rattle.std.specs.Prelude.{Ok}
use Rattle.octets.{specs.{Bytes.bytes_of, Splice.splice}, proofs.{Numbers.length_bytes, Splices.splice_front}}
use Rattle.points.specs.{Point.{type_of, width_at, refusal_of, point_bytes, write_outcome, Put, Numbered}, declared.{Datapoint.Datapoint}}

outcome_fits : (d : Datapoint) (o : List ℕ) (w : ℕ) → w ≡ width_at (type_of d) → length o ≡ w → write_outcome d o ≡ refusal_of d
outcome_fits d o w f h = ap (λ (b : Bool). cond b (refusal_of d) 20) (eq-eqb (length o) (width_at (type_of d)) (h ∙ f))

whole : (o : List ℕ) (w n : ℕ) → length o ≡ w → splice o 0 (bytes_of w n) ≡ bytes_of w n
whole o w n h =
    splice_front o (bytes_of w n)
    ∙ ap (λ (k : ℕ). bytes_of w n ++ drop k o) (length_bytes w n ∙ sym h)
    ∙ ap (λ (l : List ℕ). bytes_of w n ++ l) (drop-length o)
    ∙ append-nil (bytes_of w n)

pub write_yes : (d : Datapoint) (o e : List ℕ) (w n m : ℕ) → w ≡ width_at (type_of d) → length o ≡ w → Numbered d (Ok n) → m ≡ n → e ≡ splice o 0 (bytes_of w m) → Put d o 0 e
unfolding point_bytes
write_yes d o e w n m j h k z s =
    record {
      result = k.refused ∙ sym (outcome_fits d o w j h);
      part = s ∙ whole o w m h ∙ ap₂ bytes_of j (z ∙ k.is);
    }
