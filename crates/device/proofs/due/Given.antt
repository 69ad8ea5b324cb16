-- What the row of a request that reads says of its fields and its data.
use Rattle.octets.proofs.Kit.{ℕ, ◌+◌, ◌*◌, ◌≤◌, ◌<◌, ◌≡◌, List, arith, ltb, length, length-drop}
use Rattle.octets.proofs.Truths.{and_is, below_is, equal_is}
use Rattle.pdu.specs.{Read.data_of, declared.Pdu.TheVariants.{SerialNumberRead, PropertyValueRead, PropertyValueWrite, MemoryWrite, MemoryBitWrite, UserMemoryWrite}}
use Rattle.pdu.proofs.promises.Readings.{Reading}

module _ (a : List ℕ) where
  pub serial_small : (serial : ℕ) → Reading a (SerialNumberRead serial) → serial < 281474976710656
  serial_small serial r = (below_is serial _).0 ((and_is _ _).0 r.fit).0

  module _ (object id n s : ℕ) where
    pub read_fields : Reading a (PropertyValueRead object id n s) → (n < 16) × (s < 4096)
    read_fields r =
        let h = (and_is (ltb n 16) _).0 r.fit in
        ((below_is n 16).0 h.0, (below_is s 4096).0 ((and_is (ltb s 4096) _).0 h.1).0)

    pub write_fields : Reading a (PropertyValueWrite object id n s) → (n < 16) × (s < 4096)
    write_fields r =
        let h = (and_is (ltb n 16) _).0 r.fit in
        ((below_is n 16).0 h.0, (below_is s 4096).0 ((and_is (ltb s 4096) _).0 h.1).0)

    pub write_data : Reading a (PropertyValueWrite object id n s) → length (data_of (PropertyValueWrite object id n s) a) ≤ 10
    unfolding data_of
    write_data r = omega (arith, r.most, length-drop 6 a)

  module _ (n address : ℕ) where
    pub memory_data : Reading a (MemoryWrite n address) → length (data_of (MemoryWrite n address) a) ≡ n
    unfolding data_of
    memory_data r =
        let h = (equal_is (length a) (4 + n)).0 ((and_is (ltb n 16) _).0 r.fit).1 in
        omega (arith, length-drop 4 a)

    pub user_data : Reading a (UserMemoryWrite n address) → length (data_of (UserMemoryWrite n address) a) ≡ n
    unfolding data_of
    user_data r = let h = (equal_is (length a) (5 + n)).0 r.fit in omega (arith, length-drop 5 a)

    pub bits_data : Reading a (MemoryBitWrite n address) → length (data_of (MemoryBitWrite n address) a) ≡ n + n
    unfolding data_of
    bits_data r = let h = (equal_is (length a) (5 + 2 * n)).0 r.fit in omega (arith, length-drop 5 a)
