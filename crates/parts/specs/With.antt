-- Parts with one of them changed.
use Rattle.std.specs.Prelude.{ℕ, List, Bool, false, set, get_or}
use Rattle.parts.specs.declared.Head.{Head}
use Rattle.parts.specs.declared.Property.{Property}
use Rattle.parts.specs.declared.Parts.{Parts}
use Rattle.parts.specs.Records.{no_property}

abbrev pub with_head : Parts → Head → Parts
with_head u h =
    record {
      head = h;
      counts = u.counts;
      regions = u.regions;
      properties = u.properties;
      groups = u.groups;
      users = u.users;
      bodies = u.bodies;
      length = u.length;
    }

abbrev pub with_properties : Parts → List Property → Parts
with_properties u ps =
    record {
      head = u.head;
      counts = u.counts;
      regions = u.regions;
      properties = ps;
      groups = u.groups;
      users = u.users;
      bodies = u.bodies;
      length = u.length;
    }

abbrev pub with_bodies : Parts → List ℕ → Parts
with_bodies u b =
    record {
      head = u.head;
      counts = u.counts;
      regions = u.regions;
      properties = u.properties;
      groups = u.groups;
      users = u.users;
      bodies = b;
      length = u.length;
    }

-- a head with another programming mode, address and keys
abbrev pub head_with : Head → Bool → ℕ → List ℕ → Head
head_with h p a ks =
    record {
      serial = h.serial;
      mask = h.mask;
      programming = p;
      verify = h.verify;
      address = a;
      keys = ks;
      rules = h.rules;
    }

abbrev pub with_key : Parts → ℕ → ℕ → Parts
with_key u i key = with_head u (head_with u.head u.head.programming u.head.address (set u.head.keys i key))

abbrev pub with_address : Parts → ℕ → Parts
with_address u a = with_head u (head_with u.head u.head.programming a u.head.keys)

-- programming mode off
abbrev pub cleared : Parts → Parts
cleared u = with_head u (head_with u.head false u.head.address u.head.keys)

abbrev pub counting : Property → ℕ → Property
counting p c =
    record {
      object = p.object;
      id = p.id;
      writable = p.writable;
      typ = p.typ;
      size = p.size;
      maximum = p.maximum;
      count = c;
      offset = p.offset;
      read = p.read;
      write = p.write;
    }

abbrev pub with_count : Parts → ℕ → ℕ → Parts
with_count u i c = with_properties u (set u.properties i (counting (get_or u.properties i no_property) c))
