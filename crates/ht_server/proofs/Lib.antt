mod Counting
mod Ended
mod Followed
mod OpenedThen
mod Said
mod Sent
mod Statuses
