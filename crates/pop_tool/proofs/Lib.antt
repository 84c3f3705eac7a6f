pub mod Ready
pub mod Endings
pub mod OneOutput
mod Replies
mod Puts
mod OneAnswer
mod CountLengths
mod BundleInput
mod SilentBundles
mod FirstBytes
mod TwoLines
mod CheckHeadline
mod ShowHeadline
mod ShowChecked
mod LastLine
mod Courses
mod RunHeadline
mod Decimals
mod ReplayHeadline
mod HeldText
mod RunHeld
mod SilentFiles
mod CompileHeadline
mod CompileChecked
mod SettleHeadline
mod Told
mod FilePreds
mod ShownLines
mod ShowTells
mod Headlines
pub mod Complete
