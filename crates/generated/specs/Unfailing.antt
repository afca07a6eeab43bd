-- What files tell of which no read fails.
use Rattle.std.specs.Prelude.{Some}
use Rattle.cs_base.specs.Outside.{FilesTold, files_told}
use Rattle.cs_base.specs.World.{World}

-- what files in memory tell, but that no read failed
abbrev pub told_unfailing : World → FilesTold
told_unfailing w = files_told (Some w.files) 0 w.failed_puts w.last_failed
