-- Places as the code keeps them. Assumes nothing.
use Rattle.std.specs.Prelude.{ℕ, List, take}
use Rattle.avr.specs.declared.sources.Sources.{Sources}

-- the places, in order
abbrev pub list_of : Sources → List ℕ
list_of sources = take sources.count sources.places
