-- A record that becomes the newest of its key.
use Rattle.std.specs.Prelude.{ℕ, List, Option}
use Rattle.key_index.specs.Links.{Cells, IsChained, with_link}
use Rattle.key_index.specs.Index.{AreParted, is_put_of}

-- once a record is linked to the one before it, the newest records are those of two lists, of its kind and the
-- others, and the links are right
pub record IsMoved (cells : Cells) (c : ℕ) (older : Option ℕ) (these others : List ℕ) : Type 0 where
  pub parted : AreParted (with_link cells c older) (is_put_of (cells c)) these others
  pub chained : IsChained (with_link cells c older)
