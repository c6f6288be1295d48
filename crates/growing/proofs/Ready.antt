-- What holds of what is grown, by its type. Assumes nothing.
use Rattle.std.proofs.Common.{◌≡◌, ◌≤◌, true, length}
use Rattle.groups.specs.Rises.{climbing}
use Rattle.meaning.specs.Crews.{Admits}
use Rattle.placed.specs.Signs.{Within}
use Rattle.fixed.proofs.Few.{few_held}
use Rattle.rows.specs.Rows.{AllWithin}
use Rattle.telling.specs.Told.{Holds}
use Rattle.growing.specs.declared.growth.Growth.{Growth}
use Rattle.growing.specs.Gathered.{Asked, asked_of}

-- the frame has the levers of the table and of the new line
pub record Ready (a : Asked) : Type 0 where
  pub climbs : climbing 0 a.plates ≡ true
  pub few : length a.plates ≤ 32
  pub within : AllWithin (length a.plates) a.table
  pub line : Within (length a.plates) a.line

pub ready_of : {C : Type 0} (means : C → Admits) (g : Growth C) → Ready (asked_of means g)
ready_of means g =
    let p = g.frame.plates.now in
    record {
      climbs = p.rises;
      few = few_held p.plates;
      within = g.table_within;
      line = g.line_within;
    }

pub holds_of : (a : Asked) → Ready a → Holds a.plates a.table
holds_of a r = record { climbs = r.climbs; few = r.few; within = r.within }
