-- What a run that is not refused has.
pub mod RunAccepted
