-- The gauges of a recording as the code holds them, and what they mean.
use Rattle.std.specs.Prelude.{ℕ, List, take, map, ℤ}
use Rattle.definitions.specs.Gauges as meant
use Rattle.gauges.specs.declared.gauge.Gauge.{Gauge}
use Rattle.gauges.specs.declared.gauge.Gauges.{Gauges}

-- a gauge
abbrev pub gauge_in : Gauge → meant.Gauge
gauge_in g = record { atom = g.atom; threshold = g.threshold }

-- the atoms of gauges
abbrev pub atoms_of : List Gauge → List ℕ
atoms_of gauges = map (λ g. g.atom) gauges

-- their thresholds
abbrev pub thresholds_of : List Gauge → List ℤ
thresholds_of gauges = map (λ g. g.threshold) gauges

-- gauges in the order of their lines
abbrev pub gauges_of : List Gauge → meant.Gauges
gauges_of gauges = record { atoms = atoms_of gauges; thresholds = thresholds_of gauges }

-- those of a recording
abbrev pub held : Gauges → List Gauge
held g = take g.count g.list

-- what they mean
abbrev pub gauges_in : Gauges → meant.Gauges
gauges_in g = gauges_of (held g)
