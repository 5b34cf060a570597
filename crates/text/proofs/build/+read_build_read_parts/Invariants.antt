-- The levels fall where a build calls for its parts; its parts read builds with the levels that they were given.
use Rattle.std.proofs.Common.{◌+◌, ◌*◌}
use Rattle.text.proofs.build.+read_build_read_parts.Given as goal

abbrev pub decreases-read_build : goal.decreases-read_build
decreases-read_build l = 2 * l.levels

abbrev pub decreases-read_parts : goal.decreases-read_parts
decreases-read_parts l = 2 * l.levels + 1
