use Rattle.std.proofs.Common.{ap}
pub mod OverlapCases
