pub mod After
pub mod Apart
pub mod BindingEdits
pub mod Bound
pub mod Edits
pub mod EntryHalves
mod FirstBound
mod FreshJoined
pub mod FreshLaws
pub mod Groups
pub mod Halves
pub mod LeastExpiries
mod Looks
pub mod Loops
pub mod OneEdit
pub mod Patches
pub mod Planned
pub mod PolicyLaws
pub mod PolicyPatch
pub mod PolicyRows
pub mod SpotLaws
pub mod SpotTouches
pub mod Untouched
