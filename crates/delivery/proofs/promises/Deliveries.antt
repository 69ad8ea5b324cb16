-- A DATAPOINT SENT TO A GROUP OBJECT IS STORED THERE, AND A READ IS TOLD IT: of every step that is due, and so of ours.
use Rattle.octets.proofs.Kit.{ℕ, ◌+◌, ◌≤◌, ◌<◌, max, ◌≡◌, refl, sym, ap, ap₂, subst, ◌∙◌, List, length, arith}
use Rattle.octets.{specs.{Bytes.num_at, Splice.splice}, proofs.Splices.{splice_read, splice_num}}
use Rattle.sheet.{specs.{Kind.groups, Layout.{Field, ◌of◌}, Entries.{count, entry}, Agree.Agree}, proofs.alike.Sames.{count_same, group_same}}
use Rattle.sheet.specs.Group as group
use Rattle.pdu.specs.declared.Pdu.{Pdu, TheVariants.{GroupValueRead, GroupValueResponse}}
use Rattle.points.{specs.{Point.{type_of, width_at, read_point, number_of, point_bytes}, declared.Datapoint.Datapoint}, proofs.promises.Back.{number_small, written_back}}
use Rattle.values.{specs.Value.{six_bits, value_data}, proofs.promises.Back.{allowed, said}}
use Rattle.device.specs.{Octets.Octets, Step.Step, Asked.{Asked, to_group, quiet, says, stores, Reads, part}, GroupsDue.{Group, Brings, Flag, group_entry}, Right.Right, Demand2.done}
use Rattle.device.proofs.{leaves.Octet.octets_splice, due.RightGroups.only_group_length, promises.Rightly.{right, right_only}, leaves.Stays.request_agrees, due.Taking.among_at}
use Rattle.delivery.specs.Delivery.{length_code, Sends, Flagged, Suits, Delivered, Asks, Told}
use Rattle.delivery.proofs.{Received.{group_back, octets_point, length_point, length_data, length_body, received, sent_reads, sent_data, sent_octets}, Stored.{room, still, handed}}
use Rattle.delivery.proofs.Carried.{put, tell}

module _ {x : Asked} {d : Datapoint} {p : Pdu} {flag i : ℕ} (s : Sends x d p flag) (o : Flagged x i flag) where
  only : (r : Step) → Right x r → r ≡ done x
  only r h = right_only x s.octets (sent_octets s) r h

  -- WHERE THE LENGTH CODE IS ANOTHER, 10, AND NOTHING CHANGES: a switch sent to an object of one byte
  pub unsuited : (r : Step) → Right x r → (group.code of group_entry x i ≡ length_code (type_of d) → ⊥) → r ≡ quiet x 10
  unsuited r h f =
      only r h
      ∙ sym
      (only_group_length x p (six_bits d) flag (sent_reads s) s.brings i o.object o.flag (λ e. f (sym e ∙ ap length (sent_data s) ∙ length_data d)))

  module _ (u : Suits x i d) where
    abbrev left : List ℕ
    left = splice x.sheet (group.offset of group_entry x i) (point_bytes d)

    is_put : stores x left ≡ done x
    is_put = put x p flag i (sent_reads s) o.object o.flag d s.brings (sent_data s) u.code

    agrees : Agree x.sheet left
    agrees = subst (λ (r : Step). Agree x.sheet r.sheet) (sym is_put) (request_agrees x s.accepted)

    there : i < count x.sheet groups
    there = o.object.there

    long : length (point_bytes d) ≡ max 1 (group.code of group_entry x i)
    long = length_body d ∙ ap (max 1) (sym u.code)

    holding : Delivered x d (stores x left)
    holding =
        let b = handed x.sheet s.accepted i there (point_bytes d) long agrees x.group o.object.address in
        record {
          outcome = refl;
          answer = refl;
          session = refl;
          accepted = still x.sheet s.accepted i there (point_bytes d) long agrees;
          body = b;
          says = ap (read_point (type_of d)) b ∙ written_back d u.typed u.writable;
        }

    -- DELIVERED
    pub delivered : (r : Step) → Right x r → Delivered x d r
    delivered r h = subst (Delivered x d) (is_put ∙ sym (only r h)) holding

    -- AND TOLD
    module _ (r : Step) (h : Right x r) (y : Asked) (q : Asks x y r) (f : Flag (group_entry x i) 1) where
      met : y.sheet ≡ left
      met = q.sheet ∙ ap (λ (z : Step). z.sheet) (only r h ∙ sym is_put)

      same : (k : Field) → k.at + k.width ≤ group.size → k of group_entry y i ≡ k of group_entry x i
      same k l = ap (λ (z : List ℕ). k of entry z groups i) met ∙ group_same agrees i k there l

      object : Group y i
      object =
          record {
            there = rw (met, count_same agrees groups) there;
            address = same group.address (omega arith) ∙ o.object.address ∙ sym q.address;
          }

      asked : Reads y GroupValueRead
      asked = received y GroupValueRead (to_group q.mode (among_at _ 0 refl)) q.mode q.reads (rw met holding.accepted) q.buffer

      inside : group.offset of group_entry x i + length (point_bytes d) ≤ length x.sheet
      inside = room x.sheet s.accepted i there (point_bytes d) long

      offset : group.offset of group_entry y i ≡ group.offset of group_entry x i
      offset = same group.offset (omega arith)

      number : num_at y.sheet (group.offset of group_entry y i) (width_at (type_of d)) ≡ number_of d
      unfolding point_bytes
      number =
          ap₂ (λ (z : List ℕ) (a : ℕ). num_at z a (width_at (type_of d))) met offset
          ∙ splice_num x.sheet _ (width_at (type_of d)) (number_of d) (omega (arith, inside, length_point d)) (number_small d u.typed u.writable)

      bytes : part y.sheet (group.offset of group_entry y i) (width_at (type_of d)) ≡ point_bytes d
      bytes =
          ap₂ (λ (z : List ℕ) (a : ℕ). part z a (width_at (type_of d))) met offset
          ∙ ap (part left (group.offset of group_entry x i)) (sym (length_point d))
          ∙ splice_read x.sheet _ (point_bytes d) inside

      answered : says y 0 (GroupValueResponse (six_bits d)) (value_data d) ≡ done y
      answered =
          tell y i asked object (rw (same group.flags (omega arith)) f) d (same group.code (omega arith) ∙ u.code) number bytes

      octets_met : Octets y.sheet
      octets_met = rw met (octets_splice x.sheet _ (point_bytes d) inside s.octets (octets_point d))

      pub told : (r' : Step) → Right y r' → Told y d r'
      told r' h' =
          let b = group_back (value_data d) (Brings.response (six_bits d)) (allowed d) in
          subst (Told y d) (answered ∙ sym (right_only y octets_met q.octets r' h'))
          (record {
            outcome = refl;
            reads = b.0;
            bytes = b.1;
            says = said d u.typed u.writable;
            session = refl;
            sheet = refl;
          })

    -- BY OUR DEVICE
    ours : Right x (done x)
    ours = right x s.octets (sent_octets s)

    pub delivered_ours : Delivered x d (done x)
    delivered_ours = delivered (done x) ours

    pub told_ours : (y : Asked) → Asks x y (done x) → Flag (group_entry x i) 1 → Told y d (done y)
    told_ours y q f = told (done x) ours y q f (done y) (right y (octets_met (done x) ours y q f) q.octets)
